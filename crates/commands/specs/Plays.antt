-- Dice and moves of a play.
use Rattle.std.specs.Prelude.{ℕ, List, ◌++◌, Option, option_map}
use Rattle.board.specs.declared.moves.Moves.{Moves}
use Rattle.board.specs.Moves.{moves_of}
use Rattle.fields.specs.Digits.{FineDice, dice_text}
use Rattle.fields.specs.Moves.{FineMoves, moves_text}

-- two dice, each a digit, and up to eight moves
abbrev pub FinePlay : (ℕ × ℕ) × List (ℕ × ℕ) → Type 0
FinePlay x = FineDice x.0 × FineMoves x.1

-- the dice, then the moves
abbrev pub play_text : (ℕ × ℕ) × List (ℕ × ℕ) → List ℕ
play_text x = dice_text x.0 ++ moves_text x.1

-- what an answer of the program stands for
abbrev pub play_shown : Option ((ℕ × ℕ) × Moves 8) → Option ((ℕ × ℕ) × List (ℕ × ℕ))
play_shown = option_map (λ x. (x.0, moves_of x.1))
