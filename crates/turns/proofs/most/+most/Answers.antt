use Rattle.std.proofs.Common.{◌∙◌}
use Rattle.turns.proofs.Longest.{move_tried, most_of_all}
use Rattle.turns.proofs.most.+most.Goals as goal

pub returns-then-best-dice-clause-most : goal.returns-then-best-dice-clause-most
returns-then-best-dice-clause-most t c =
    let tried =
    move_tried c.args.b.now c.in-Some-make.after c.args.dice.now c.in-Some.rest _ _ _ _ _ c.in-Some.ensures c.in-Some-make.ensures
    c.most.ensures.most c.most.ensures.few c.max-best.ensures c.loop-s.invariant
    in
    most_of_all _ _ _ _ _ (c.if-best-dice.true ∙ c.args.dice.now.all) tried.0

pub loop-s-preserved : goal.loop-s-preserved
loop-s-preserved t c =
    move_tried c.args.b.now c.in-Some-make.after c.args.dice.now c.in-Some.rest _ _ _ _ _ c.in-Some.ensures c.in-Some-make.ensures
    c.most.ensures.most c.most.ensures.few c.max-best.ensures c.loop-s.invariant
