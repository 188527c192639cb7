-- The moves of a turn and their text.
use Rattle.std.specs.Prelude.{ℕ, ◌<◌, ◌≤◌, List, ◌∷◌, ◌++◌, length, Option, option_map}
use Rattle.std.specs.List.{flat_map, AllByRecursion}
use Rattle.board.specs.declared.moves.Moves.{Moves}
use Rattle.board.specs.Moves.{moves_of}
use Rattle.fields.specs.Digits.{FineDigit, padded}

-- the moves that an answer of the program holds
abbrev pub shown : Option (Moves 8) → Option (List (ℕ × ℕ))
shown = option_map moves_of

-- a start in two digits and a die in one
abbrev pub FineMove : ℕ × ℕ → Type 0
FineMove m = (m.0 < 100) × FineDigit m.1

-- a space, the start, the die
abbrev pub move_text : ℕ × ℕ → List ℕ
move_text m = 32 ∷ (padded 2 m.0 ++ padded 1 m.1)

-- at most eight moves
abbrev pub FineMoves : List (ℕ × ℕ) → Type 0
FineMoves ms = (length ms ≤ 8) × AllByRecursion FineMove ms

-- one behind the other
abbrev pub moves_text : List (ℕ × ℕ) → List ℕ
moves_text = flat_map move_text
