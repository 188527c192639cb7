use Rattle.std.proofs.Common.{◌≡◌, ◌+◌, ◌-◌, arith}
use Rattle.places.proofs.Table.{fewer, ways-step, ways_none}
use Rattle.places.proofs.side.count_at.Goals as goal

pub overflow_sub-all : goal.overflow_sub-all
overflow_sub-all c =
    omega (arith, c.ways_of-all.ensures.is, c.ways_of.ensures.is, fewer c.args.p c.args.left (c.args.left - (c.loop-c.c + 1)) (omega arith) (omega arith))

pub returns-then-before-all : goal.returns-then-before-all
returns-then-before-all c =
    let z : c.args.left - c.loop-c.c - 1 ≡ c.args.left - (c.loop-c.c + 1) = omega arith in
    let w = ways-step c.args.p (c.args.left - c.loop-c.c) (omega arith) (omega arith) in
    record {
      few = omega arith;
      from = c.loop-c.invariant;
      to = omega (arith, c.ways_of-all.ensures.is, c.ways_of.ensures.is, rw z at w);
    }

pub returns : goal.returns
returns c =
    let z : c.args.left - c.args.left ≡ 0 = omega arith in
    let e : c.loop-c.c ≡ c.args.left = omega arith in
    let i = c.loop-c.invariant in
    record {
      few = omega arith;
      from = rw e at i;
      to = rw z (omega (arith, ways_none c.args.p, ways_none (c.args.p - 1), c.requires.within));
    }
