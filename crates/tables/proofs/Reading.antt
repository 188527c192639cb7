-- What stands in a lent part, and the greatest and the best of several.
use Rattle.std.proofs.Common.{◌≡◌, ℕ, max, List, [], ◌∷◌, get_or, fold, None, sym, refl, ap, ◌∙◌, arith}
use Rattle.std.specs.List.{slice_get, reduce}
use Rattle.std.specs.Option.{unwrap_or}
use Rattle.std.proofs.lemmas.Option.{unwrap_or-slice_get}
use Rattle.listing.specs.Order.{greatest}
use Rattle.chance.specs.declared.kind.Chance.{Ghosts}
use Rattle.values.specs.Best.{best_from_first}

pub length_there : (xs : List ℕ) (i : ℕ) → get_or xs i 0 ≡ unwrap_or (slice_get xs i) 0
length_there xs i = sym (unwrap_or-slice_get xs i 0)

-- an entry that is not there is read as the default
pub none_there : {X : Type 0} (xs : List X) (i : ℕ) (d : X) → slice_get xs i ≡ None → get_or xs i d ≡ d
none_there xs i d e = sym (unwrap_or-slice_get xs i d) ∙ ap (λ r. unwrap_or r d) e

pub best_or_lost : {V S R : Type 0} (k : Ghosts V S R) (vs : List V) → best_from_first k vs ≡ unwrap_or (reduce k.better vs) k.lost
best_or_lost k [] = refl
best_or_lost k (v ∷ vs) = refl

greatest_from : (m : ℕ) (xs : List ℕ) → fold max m xs ≡ max m (greatest xs)
greatest_from m [] = omega arith
greatest_from m (x ∷ xs) = greatest_from (max m x) xs ∙ omega arith

pub greatest_by_fold : (xs : List ℕ) → fold max 0 xs ≡ greatest xs
greatest_by_fold xs = omega (arith, greatest_from 0 xs)
