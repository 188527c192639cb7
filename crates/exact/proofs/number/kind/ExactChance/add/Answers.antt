use Rattle.std.proofs.Common.{refl}
use Rattle.chance.proofs.Admitted.{taken_fits}
use Rattle.exact.specs.Kept.{is_added}
use Rattle.exact.proofs.number.kind.ExactChance.add.Goals as goal

pub returns-clause-left : goal.returns-clause-left
returns-clause-left c = is_added c.args.sum.now c.args.by c.args.value (taken_fits c.in_ok-admit.ensures) _ _ _ refl refl c.max.ensures _
