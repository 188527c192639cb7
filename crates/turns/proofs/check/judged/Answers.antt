use Rattle.std.proofs.lemmas.Result.{err_from_is_err_and}
use Rattle.std.proofs.lemmas.Bool.Decides.{not_from_Decides}
use Rattle.turns.proofs.Faults.{stopped, too_few, smaller, not_finished}
use Rattle.turns.proofs.check.judged.Goals as goal

pub returns-in_err-after : goal.returns-in_err-after
returns-in_err-after c =
    let p = err_from_is_err_and c.from_residual-in_err-after.result c.from_residual-in_err-after.ensures.1 in
    rw (p.1, p.2) (stopped _ _ _ _ c.in_ok-dice.dice c.in_ok-dice.ensures c.if-turn-dice.false _ c.in_err-after.ensures)

pub returns-then-too_few : goal.returns-then-too_few
returns-then-too_few c =
    let walked = c.in_ok-after.ensures in
    let on' = not_finished _ _ c.in_ok-after.after walked.1 (not_from_Decides _ c.finished.ensures c.if-finished.false) in
    rw c.plain-then-too_few.ensures (too_few _ _ _ _ c.in_ok-dice.dice c.in_ok-dice.ensures c.if-turn-dice.false walked.0 on' c.if-too_few.ensures)

pub returns-then-playable-2 : goal.returns-then-playable-2
returns-then-playable-2 c =
    let walked = c.in_ok-after.ensures in
    let on' = not_finished _ _ c.in_ok-after.after walked.1 (not_from_Decides _ c.finished.ensures c.if-finished.false) in
    let one = c.smaller_used.ensures.0 c.if-smaller_used.true in
    rw c.plain-then-playable-2.ensures
    (smaller _ _ _ _ c.in_ok-dice.dice c.in_ok-dice.ensures c.if-turn-dice.false walked.0 c.if-too_few.ensures
    (on', (one.0, one.1, c.playable.ensures.0 c.if-playable.true, c.playable-then-playable.ensures.0 c.if-playable-2.true), one.2))
