-- The allowed turns of a roll, in listing order.
use Rattle.std.specs.Prelude.{◌≡◌, ℕ, ◌<◌, ◌⊎◌, List, [], ◌∷◌}
use Rattle.board.specs.Position.{Position}
use Rattle.turns.specs.Runs.{Move}
use Rattle.turns.specs.Turns.{Allowed}

abbrev pub In : {X : Type 0} → X → List X → Type 0
In x [] = ⊥
In x (y ∷ ys) = (x ≡ y) ⊎ In x ys

-- at the first step where the two differ, t has the larger die, or the same die and the higher start
abbrev pub Earlier : List Move → List Move → Type 0
Earlier [] u = ⊥
Earlier (m ∷ ms) [] = ⊥
Earlier (m ∷ ms) (n ∷ ns) =
    (n.1 < m.1) ⊎ (((n.1 ≡ m.1) × (n.0 < m.0)) ⊎ ((n.1 ≡ m.1) × (n.0 ≡ m.0) × Earlier ms ns))

abbrev pub Ordered : List (List Move) → Type 0
Ordered [] = Unit {0}
Ordered (t ∷ ts) = ((u : List Move) → In u ts → Earlier t u) × Ordered ts

-- ts has each allowed turn, and no other, each before those that come later in the order
pub record Listing (b : Position) (x y : ℕ) (ts : List (List Move)) : Type 0 where
  pub only : (t : List Move) → In t ts → Allowed b x y t
  pub every : (t : List Move) → Allowed b x y t → In t ts
  pub ordered : Ordered ts
