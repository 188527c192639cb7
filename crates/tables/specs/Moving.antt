-- The places to which the turns of a side lead.
use Rattle.std.specs.Prelude.{ℕ, List, map, vec_items}
use Rattle.tables.specs.declared.moving.SideTurns.{SideTurns}

-- a list for each roll
abbrev pub place_lists : SideTurns → List (List ℕ)
place_lists t = map vec_items (vec_items t.lists)
