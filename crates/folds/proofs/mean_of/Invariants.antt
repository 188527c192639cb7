use Rattle.std.proofs.Common.{drop}
use Rattle.folds.proofs.Parts.{WeighedSoFar}
use Rattle.folds.proofs.mean_of.Given as goal

abbrev pub invariant-loop-by : goal.invariant-loop-by
invariant-loop-by g l = WeighedSoFar g.K.Chance l.parts (drop l.by-index l.parts) l.sum
