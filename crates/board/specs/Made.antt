-- What making a single move answers.
use Rattle.std.specs.Prelude.{◌≡◌, ℕ, Some, None, Option}
use Rattle.board.specs.declared.board.Board.{Board}
use Rattle.board.specs.Position.{Position, position}
use Rattle.board.specs.Single.{Legal, moved}

-- the board after a legal move, and none exactly where the move is not legal
abbrev pub Made : Position → ℕ → ℕ → Option Board → Type 0
Made b s d None = Legal b s d → ⊥
Made b s d (Some after) = Legal b s d × (position after ≡ moved b s d)
