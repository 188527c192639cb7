-- The best of several values, and what it holds.
use Rattle.std.specs.Prelude.{ℕ, max, List, [], ◌∷◌, fold}
use Rattle.chance.specs.Fraction.{Fraction}
use Rattle.chance.specs.Greatest.{Greatest}
use Rattle.chance.specs.Held.{Held}
use Rattle.chance.specs.declared.kind.Chance.{Ghosts}

module _ {V S R : Type 0} (k : Ghosts V S R) where
  -- the better of the values, in order, begun with the first
  abbrev pub best : V → List V → V
  best x ys = fold k.better x ys

  -- the greatest of a and of the values' ages
  abbrev pub oldest_from : ℕ → List V → ℕ
  oldest_from a ys = fold (λ b y. max b (k.age y)) a ys

  -- each value holds the fraction at its place
  abbrev pub AllHeld : List V → List Fraction → Type 0
  AllHeld [] [] = Unit {0}
  AllHeld [] (q ∷ qs) = ⊥
  AllHeld (y ∷ ys) [] = ⊥
  AllHeld (y ∷ ys) (q ∷ qs) = Held k y q × AllHeld ys qs

  -- whatever fractions the values hold, r holds the greatest of them
  abbrev pub BestHolds : V → List V → V → Type 0
  BestHolds x ys r = (g q : Fraction) (qs : List Fraction) → Held k x q → AllHeld ys qs → Greatest g (q ∷ qs) → Held k r g
