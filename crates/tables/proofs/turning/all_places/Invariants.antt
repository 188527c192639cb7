use Rattle.std.proofs.Common.{◌≡◌, map, take, vec_items, vec_len}
use Rattle.board.specs.Position.{position}
use Rattle.endings.specs.Rolls.{rolls}
use Rattle.tables.specs.Led.{places_led_to}
use Rattle.tables.proofs.turning.all_places.Given as goal

abbrev pub invariant-loop-roll : goal.invariant-loop-roll
invariant-loop-roll l = (vec_len l.lists ≡ l.roll-index) × (map vec_items (vec_items l.lists) ≡ map (places_led_to l.n (position l.b)) (take l.roll-index rolls))
