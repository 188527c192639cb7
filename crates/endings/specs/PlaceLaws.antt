-- What holds of places.
use Rattle.std.specs.Prelude.{◌≡◌, ℕ, ◌<◌, ◌≤◌, List}
use Rattle.board.specs.Side.{checkers}
use Rattle.board.specs.Position.{Position}
use Rattle.board.specs.Single.{Legal, moved}
use Rattle.turns.specs.Roll.{Roll}
use Rattle.turns.specs.Runs.{Move, played}
use Rattle.turns.specs.Turns.{Allowed}
use Rattle.endings.specs.Ending.{left, HomeFor, EndingFor}
use Rattle.endings.specs.Place.{place, places_of}

pub record PlaceLaws : Type 0 where
  -- how many sides with at most 1 to 6 checkers there are
  pub sizes : (places_of 1 ≡ 7) × (places_of 2 ≡ 28) × (places_of 3 ≡ 84) × (places_of 4 ≡ 210) × (places_of 5 ≡ 462) × (places_of 6 ≡ 924)
  -- places are below their number, no two sides have one place, and each number below is some side's place
  pub below : (n : ℕ) (side : List ℕ) → HomeFor n side → place n side < places_of n
  pub apart : (n : ℕ) (a b : List ℕ) → HomeFor n a → HomeFor n b → place n a ≡ place n b → a ≡ b
  pub each : (n i : ℕ) → n ≤ checkers → i < places_of n → (side : List ℕ) × HomeFor n side × (place n side ≡ i)
  -- the empty side has place 0
  pub first : (n : ℕ) (side : List ℕ) → HomeFor n side → left side ≡ 0 → place n side ≡ 0
  -- a move of a home side leads to an earlier place, and so does a turn of an ending
  pub move_falls : (n : ℕ) (p : Position) (s d : ℕ) → HomeFor n p.own → Legal p s d → place n (moved p s d).own < place n p.own
  pub turn_falls : (n : ℕ) (p : Position) (x y : ℕ) (t : List Move) → EndingFor n p → Roll x y → Allowed p x y t → place n (played p t).own < place n p.own
