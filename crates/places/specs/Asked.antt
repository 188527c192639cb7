-- What is answered about places.
use Rattle.std.specs.Prelude.{◌≡◌, ℕ, ◌<◌, ◌≤◌, List, Some, None, Option}
use Rattle.endings.specs.Ending.{HomeFor}
use Rattle.endings.specs.Place.{place, places_of}

-- places are for at most n checkers, n from 1 to 6
abbrev pub Size : ℕ → Type 0
Size n = (1 ≤ n) × (n ≤ 6)

-- how many places there are
abbrev pub CountOf : ℕ → Option ℕ → Type 0
CountOf n (Some k) = Size n × (k ≡ places_of n)
CountOf n None = Size n → ⊥

-- the place of a home side with at most n checkers, and none for any other
abbrev pub PlaceOf : ℕ → List ℕ → Option ℕ → Type 0
PlaceOf n side (Some i) = Size n × HomeFor n side × (i ≡ place n side)
PlaceOf n side None = Size n → HomeFor n side → ⊥

-- the home side with at most n checkers whose place it is, and none where there is no such place
abbrev pub SideAt : ℕ → ℕ → Option (List ℕ) → Type 0
SideAt n i (Some side) = Size n × (i < places_of n) × HomeFor n side × (i ≡ place n side)
SideAt n i None = Size n → i < places_of n → ⊥
