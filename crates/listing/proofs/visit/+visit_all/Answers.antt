use Rattle.std.proofs.Common.{◌-◌, ◌≤◌, sym, ◌∙◌, inl, inr, arith}
use Rattle.board.specs.Moves.{moves_of}
use Rattle.board.specs.Position.{position}
use Rattle.listing.proofs.Showing.{one_shown, start_on, start_off, die_on, die_off, all_shown}
use Rattle.listing.proofs.Fits.{fits_on, fits_unmet, fits_illegal}
use Rattle.listing.proofs.visit.+visit_all.Goals as goal
use Rattle.listing.proofs.visit.+visit_all.Goals.{then-need-eq0-via-then-need-eq0, then-need-eq0-via-else-need-eq0+then-finished}

pub returns-then-need-eq0 : goal.returns-then-need-eq0
returns-then-need-eq0 g t c =
    one_shown (g.V.Visit.step c.args.visitor.now) (moves_of c.args.made.now) _ _ _ _ c.args.sum c.visit.result
    (elim c.then-need-eq0.branch [
      | then-need-eq0-via-then-need-eq0 w ↦ inl w.if-need-eq0.true
      | then-need-eq0-via-else-need-eq0+then-finished w ↦ inr (sym w.finished.ensures ∙ w.if-finished.true)
    ])
    c.visit.ensures

pub loop-d-preserved-in_default : goal.loop-d-preserved-in_default
loop-d-preserved-in_default g t c = die_off _ _ _ _ _ _ _ _ _ _ (omega arith) c.in_default.ensures c.loop-d.invariant

pub loop-d-preserved : goal.loop-d-preserved
loop-d-preserved g t c = die_on _ _ _ _ _ _ _ _ _ _ _ _ (omega arith) c.loop-s-test.false c.loop-s.invariant c.loop-d.invariant

pub loop-s-preserved-in_default-make : goal.loop-s-preserved-in_default-make
loop-s-preserved-in_default-make g t c =
    let b = position c.args.b.now in
    let dice = c.args.dice.now.left in
    let d = c.loop-d.d - 1 in
    let s = c.loop-s.s - 1 in
    let off = fits_illegal c.args.due b dice s d c.args.b.now.long c.in_default-make.ensures in
    start_off _ _ c.args.due (c.args.need - 1) b dice d s _ _ _ (omega arith) off c.loop-s.invariant

pub loop-s-preserved-then-due_met : goal.loop-s-preserved-then-due_met
loop-s-preserved-then-due_met g t c =
    let m = c.in-Some-make.ensures in
    let behind = rw (m.1, c.in-Some.ensures.left, c.in-Some-with.ensures) at c.visit_all-sum.ensures in
    let k : 1 ≤ c.loop-s.s - 1 = omega arith in
    start_on _ _ _ _ _ _ _ _ _ _ _ _ k
    (fits_on _ _ _ _ _ c.args.b.now.long c.in-Some.ensures.has m.0 (rw m.1 at (sym c.due_met.ensures ∙ c.if-due_met.true)))
    behind c.loop-s.invariant

pub loop-s-preserved : goal.loop-s-preserved
loop-s-preserved g t c =
    let b = position c.args.b.now in
    let dice = c.args.dice.now.left in
    let d = c.loop-d.d - 1 in
    let s = c.loop-s.s - 1 in
    let off = fits_unmet c.args.due b dice s d (rw c.in-Some-make.ensures.1 at (sym c.due_met.ensures ∙ c.if-due_met.false)) in
    start_off _ _ c.args.due (c.args.need - 1) b dice d s _ _ _ (omega arith) off c.loop-s.invariant

pub returns : goal.returns
returns g t c =
    all_shown _ _ _ _ _ _ _ _ _ c.if-need-eq0.false (sym c.finished.ensures ∙ c.if-finished.false) c.loop-d-test.false c.loop-d.invariant
