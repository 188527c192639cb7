use Rattle.std.proofs.Common.{◌+◌, ◌-◌, ◌≤◌}
use Rattle.places.specs.Ways.{ways}
use Rattle.places.proofs.side.count_at.Given as goal

abbrev pub invariant-loop-c : goal.invariant-loop-c
invariant-loop-c l = ways l.p l.left ≤ l.before + ways l.p (l.left - l.c)
