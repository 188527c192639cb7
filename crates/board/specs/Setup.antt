-- The start board, and boards from counts.
use Rattle.std.specs.Prelude.{ℕ, ◌≤◌, List, replicate, sum, slice_set}
use Rattle.board.specs.Side.{checkers, Apart, counts_with_off}
use Rattle.board.specs.Position.{Position}

-- two checkers on 24, five on 13, three on 8, five on 6
abbrev pub start_side : List ℕ
start_side = slice_set (slice_set (slice_set (slice_set (replicate 26 0) 24 2) 13 5) 8 3) 6 5

-- the board's rule: no more checkers than a side has, and no point with checkers of both sides
pub record Rule (own other : List ℕ) : Type 0 where
  pub few : sum own ≤ checkers
  pub others : sum other ≤ checkers
  pub apart : Apart (counts_with_off own) (counts_with_off other)

-- the position with these counts on points 1 to 25
abbrev pub placed : List ℕ → List ℕ → Position
placed own other = record { own = counts_with_off own; other = counts_with_off other }
