-- The moves of a turn that is stored.
use Rattle.std.specs.Prelude.{ℕ, List, take}
use Rattle.board.specs.declared.moves.Moves.{Moves}

abbrev pub moves_of : {N : ℕ} → Moves N → List (ℕ × ℕ)
moves_of m = take m.count m.list
