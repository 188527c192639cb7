-- The greatest of several fractions.
use Rattle.std.specs.Prelude.{◌*◌, ◌≤◌, ◌⊎◌, List, [], ◌∷◌}
use Rattle.std.specs.List.{AllByRecursion}
use Rattle.chance.specs.Fraction.{Fraction}

-- p is at most q
abbrev pub AtMost : Fraction → Fraction → Type 0
AtMost p q = p.num * q.den ≤ q.num * p.den

-- g is at most one of the fractions
abbrev pub Reached : Fraction → List Fraction → Type 0
Reached g [] = ⊥
Reached g (q ∷ qs) = AtMost g q ⊎ Reached g qs

-- each of the fractions is at most g, and g is at most one of them
pub record Greatest (g : Fraction) (qs : List Fraction) : Type 0 where
  pub above : AllByRecursion (λ q. AtMost q g) qs
  pub reached : Reached g qs
