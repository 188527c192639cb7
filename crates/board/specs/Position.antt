-- What stands on a board, from the player due: two sides.
use Rattle.std.specs.Prelude.{ℕ, List}
use Rattle.board.specs.declared.board.Board.{Board}

pub record Position : Type 0 where
  pub own : List ℕ
  pub other : List ℕ

abbrev pub position : Board → Position
position b = record { own = b.own; other = b.other }

-- from the other player
abbrev pub swapped : Position → Position
swapped b = record { own = b.other; other = b.own }
