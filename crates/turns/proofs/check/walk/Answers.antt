use Rattle.std.proofs.Common.{◌≡◌, ◌+◌, rules}
use Rattle.std.proofs.lemmas.Result.{err_from_is_err_and}
use Rattle.refusals.specs.declared.reason.Reason.TheVariants.{NoSuchStartOrDie, IllegalMove}
use Rattle.refusals.specs.Fields.{refusal_at_move}
use Rattle.turns.proofs.Walk.{not_at_hand, not_legal}
use Rattle.turns.proofs.check.walk.Goals as goal

pub returns-in_err-left : goal.returns-in_err-left
returns-in_err-left c =
    let p = err_from_is_err_and c.from_residual.result c.from_residual.ensures.1 in
    let no' = rw c.in_err-left.ensures.ok_part at c.dice_behind.ensures in
    let e : c.in_err-left.field-0.0 ≡ refusal_at_move NoSuchStartOrDie (c.loop-i.i + 1) = search rules in
    rw (p.1, p.2, e) (not_at_hand _ _ _ _ c.loop-i-test.true _ _ c.loop-i.invariant no')

pub returns-in_err-board : goal.returns-in_err-board
returns-in_err-board c =
    let p = err_from_is_err_and c.from_residual-in_err-board.result c.from_residual-in_err-board.ensures.1 in
    let no' = rw c.in_err-board.ensures.ok_part at c.make.ensures in
    let hand = rw c.in_ok-left.ensures.ok_part at c.dice_behind.ensures in
    let e : c.in_err-board.field-0.0 ≡ refusal_at_move IllegalMove (c.loop-i.i + 1) = search rules in
    rw (p.1, p.2, e) (not_legal _ _ _ _ c.loop-i-test.true _ _ c.loop-i.invariant hand.0 no')
