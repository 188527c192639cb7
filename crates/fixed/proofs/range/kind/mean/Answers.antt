use Rattle.std.proofs.Common.{refl, arith}
use Rattle.fixed.specs.Kept.{is_closed}
use Rattle.fixed.proofs.range.kind.mean.Goals as goal

pub returns : goal.returns
returns c = is_closed c.args.sum.now c.requires _ _ _ refl (omega arith) refl _
