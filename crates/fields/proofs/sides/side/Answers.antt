use Rattle.std.proofs.Common.{◌≡◌, length, rules, ap, ◌∙◌, arith}
use Rattle.std.proofs.lemmas.List.{take_all, length-set}
use Rattle.fields.proofs.Counts.{no_count, counts-more}
use Rattle.fields.proofs.sides.side.Goals as goal

pub returns-in_err-counts : goal.returns-in_err-counts
returns-in_err-counts c =
    let same : c.in_ok-digits.digits ≡ c.args.bytes.now = search rules in
    rw c.from_residual-in_err-counts.ensures (no_count c.args.bytes.now c.loop-i.i (omega arith) (rw same at c.in_err-counts.ensures))

pub loop-i-preserved : goal.loop-i-preserved
loop-i-preserved c =
    let same : c.in_ok-digits.digits ≡ c.args.bytes.now = search rules in
    let long : length c.in_ok-digits.digits ≡ 25 = search rules in
    let inv = c.loop-i.invariant in
    let read = rw same at c.in_ok-counts.ensures in
    let more = counts-more c.args.bytes.now c.loop-i.counts c.loop-i.i c.in_ok-counts.field-0 (omega arith) (omega (arith, ap length same, long)) inv.1 inv.2 read.0 read.1 in
    (length-set c.loop-i.counts c.loop-i.i c.in_ok-counts.field-0 ∙ inv.0, more.0, more.1)

pub returns : goal.returns
returns c =
    let same : c.in_ok-digits.digits ≡ c.args.bytes.now = search rules in
    let long : length c.in_ok-digits.digits ≡ 25 = search rules in
    let all = take_all c.loop-i.i c.loop-i.counts (omega arith) in
    let all' = take_all c.loop-i.i c.args.bytes.now (omega (arith, ap length same, long)) in
    let inv = rw all at c.loop-i.invariant in
    ((inv.0, inv.1), inv.2 ∙ all')
