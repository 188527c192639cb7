use Rattle.std.proofs.Common.{◌-◌, arith}
use Rattle.places.proofs.Table.{fewer, all_ways}
use Rattle.places.proofs.Finding.{finding_none, finding_more, found}
use Rattle.places.proofs.side.unranked.Goals as goal

pub loop-p-init : goal.loop-p-init
loop-p-init c = rw c.from-left.ensures (finding_none c.args.n c.args.place (omega (arith, c.requires.within, all_ways c.args.n)))

pub overflow_sub-before : goal.overflow_sub-before
overflow_sub-before c =
    omega (
      arith,
      c.ways_of.ensures.is,
      c.ways_of-in-loop-p.ensures.is,
      fewer (c.loop-p.p - 1) c.loop-p.left (c.loop-p.left - c.count_at-here.result) (omega arith) (omega arith),
    )

pub loop-p-preserved : goal.loop-p-preserved
loop-p-preserved c =
    finding_more c.args.n c.args.place c.loop-p.p c.loop-p.left c.loop-p.before c.loop-p.side c.loop-p.invariant
    c.count_at-here.result c.ways_of.result c.ways_of-in-loop-p.result
    (omega arith) c.loop-p.auto.p c.count_at-here.ensures.few c.ways_of.ensures.is c.ways_of-in-loop-p.ensures.is
    (omega (arith, c.count_at-here.ensures.from, c.ways_of.ensures.is, c.ways_of-in-loop-p.ensures.is))
    (omega (arith, c.count_at-here.ensures.to, c.ways_of.ensures.is, c.ways_of-in-loop-p.ensures.is))

pub returns : goal.returns
returns c =
    let f = found c.args.n c.args.place c.loop-p.p c.loop-p.left c.loop-p.before c.loop-p.side c.loop-p.invariant (omega arith) c.requires.size.1 in
    record { home = f.0; place = f.1 }
