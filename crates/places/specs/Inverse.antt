-- The place of a side and the side at a place.
use Rattle.std.specs.Prelude.{◌≡◌, ℕ, List, Some, Option}
use Rattle.places.specs.Asked.{CountOf, PlaceOf, SideAt}

pub record Inverse : Type 0 where
  -- at a side's place stands that side
  pub back : (n i : ℕ) (side : List ℕ) (r : Option (List ℕ)) → PlaceOf n side (Some i) → SideAt n i r → r ≡ Some side
  -- the side at a place has that place
  pub forth : (n i : ℕ) (side : List ℕ) (r : Option ℕ) → SideAt n i (Some side) → PlaceOf n side r → r ≡ Some i
  -- each question has one answer
  pub one_count : (n : ℕ) (r q : Option ℕ) → CountOf n r → CountOf n q → r ≡ q
  pub one_place : (n : ℕ) (side : List ℕ) (r q : Option ℕ) → PlaceOf n side r → PlaceOf n side q → r ≡ q
  pub one_side : (n i : ℕ) (r q : Option (List ℕ)) → SideAt n i r → SideAt n i q → r ≡ q
