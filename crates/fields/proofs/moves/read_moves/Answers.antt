use Rattle.std.proofs.Common.{◌∙◌, arith}
use Rattle.fields.proofs.Turns.{no_move, one_more}
use Rattle.fields.proofs.moves.read_moves.Goals as goal

pub returns-in_err-start : goal.returns-in_err-start
returns-in_err-start c =
    let before = c.loop-field.invariant in
    let cut = c.in-Some.ensures.steps.1 in
    let long = rw before.2 at cut.1 in
    rw c.from_residual.ensures (no_move _ _ _ _ _ before.3 cut.0 cut.2 long c.in_err-start.ensures)

pub loop-field-preserved : goal.loop-field-preserved
loop-field-preserved c =
    let before = c.loop-field.invariant in
    let step = c.in-Some.ensures.steps in
    let cut = step.1 in
    let read = c.in_ok-start.ensures in
    let size = step.0 ∙ before.2 in
    (omega (arith, size), tt, size, rw c.in_ok-moves.ensures (one_more _ _ _ _ _ before.3 cut.0 cut.2 _ read.0 read.1))
