use Rattle.std.proofs.Common.{◌-◌, arith}
use Rattle.places.proofs.Table.{fewer}
use Rattle.places.proofs.Ranking.{too_many, not_home, all_home}
use Rattle.places.proofs.place.ranked.Goals as goal

pub returns-in_err-rest : goal.returns-in_err-rest
returns-in_err-rest c =
    rw c.from_residual.ensures
    (λ _. too_many c.args.n c.args.side.now c.loop-p.p c.loop-p.left c.loop-p.place c.loop-p.invariant (omega arith) (omega (arith, c.in_err-rest.ensures)))

pub overflow_sub-place : goal.overflow_sub-place
overflow_sub-place c =
    let rest = c.in_ok-rest.ensures in
    omega (arith, c.ways_of.ensures.is, c.ways_of-in-loop-p.ensures.is, fewer (c.loop-p.p - 1) c.loop-p.left c.in_ok-rest.rest (omega arith) (omega (arith, rest)))

pub returns-then-from-left : goal.returns-then-from-left
returns-then-from-left c _ =
    not_home c.args.n c.args.side.now c.loop-p.p c.loop-p.left c.loop-p.place c.loop-p.invariant (omega arith) (λ e. omega (arith, e))

pub returns : goal.returns
returns c =
    let h = all_home c.args.n c.args.side.now c.loop-p.p c.loop-p.left c.loop-p.place c.loop-p.invariant (omega arith) (omega arith) c.requires.complete (omega arith) in
    (c.requires.size, h.0, h.1)
