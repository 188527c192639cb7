use Rattle.chance.proofs.Admitted.{taken_fits}
use Rattle.folds.proofs.Parts.{next-at, closed_at}
use Rattle.folds.proofs.mean_of.Goals as goal

pub loop-by-preserved : goal.loop-by-preserved
loop-by-preserved g c =
    next-at g.K.Chance c.args.parts.now c.loop-by.by-index c.loop-by-item.result c.loop-by.sum _ c.loop-by-test.true c.loop-by-item.is c.loop-by.invariant (taken_fits c.in_ok-add.ensures.answer) c.add.ensures.left

pub returns : goal.returns
returns g c = closed_at g.K.Chance c.args.parts.now c.loop-by.by-index c.loop-by.sum _ _ c.loop-by-test.false c.loop-by.invariant c.close.ensures
