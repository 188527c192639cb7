use Rattle.std.proofs.Common.{arith}
use Rattle.tables.proofs.Leading.{roll_fine}
use Rattle.tables.proofs.turning.all_places.Goals as goal

pub roll_places-requires-clause-roll : goal.roll_places-requires-clause-roll
roll_places-requires-clause-roll c = rw c.all_rolls-rolls.ensures (roll_fine c.loop-roll.roll-index (0, 0) (omega arith))
