use Rattle.std.proofs.Common.{◌≡◌, length, take}
use Rattle.std.specs.List.{AllByRecursion}
use Rattle.fields.specs.Sides.{FineCount, side_text}
use Rattle.fields.proofs.sides.side.Given as goal

abbrev pub invariant-loop-i : goal.invariant-loop-i
invariant-loop-i l = (length l.counts ≡ 25) × AllByRecursion FineCount (take l.i l.counts) × (side_text (take l.i l.counts) ≡ take l.i l.bytes)
