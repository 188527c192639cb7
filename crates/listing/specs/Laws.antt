-- What holds of the listing.
use Rattle.std.specs.Prelude.{◌≡◌, ℕ, List, length}
use Rattle.board.specs.Side.{Complete}
use Rattle.board.specs.Position.{Position}
use Rattle.turns.specs.Roll.{Roll}
use Rattle.turns.specs.Runs.{Move}
use Rattle.turns.specs.Turns.{Allowed}
use Rattle.listing.specs.Listing.{Listing}
use Rattle.listing.specs.Order.{listed}

-- a position whose own side has all its checkers, on its 26 places
pub record Sound (b : Position) : Type 0 where
  pub long : length b.own ≡ 26
  pub complete : Complete b.own

pub record ListingLaws : Type 0 where
  -- the list holds exactly the allowed turns, each once, in listing order
  pub lists : (b : Position) (x y : ℕ) → Sound b → Listing b x y (listed b x y)
  -- there is only one such list
  pub one : (b : Position) (x y : ℕ) (ts us : List (List Move)) → Listing b x y ts → Listing b x y us → ts ≡ us
  -- some turn is always allowed
  pub some : (b : Position) (x y : ℕ) → Sound b → Roll x y → (t : List Move) × Allowed b x y t
