-- What the best of several values holds, and its age, from the rules of a kind.
use Rattle.std.proofs.Common.{◌≡◌, List, [], ◌∷◌, fold, refl, ap, ◌∙◌}
use Rattle.chance.specs.Fraction.{Fraction, greater}
use Rattle.chance.specs.Held.{Held}
use Rattle.chance.specs.declared.kind.Chance.{Ghosts}
use Rattle.chance.proofs.Greatest.{greatest-held}
use Rattle.folds.specs.Best.{best, oldest_from, AllHeld, BestHolds}

module _ {V S R : Type 0} (k : Ghosts V S R) where
  best_folded : (x : V) (ys : List V) (q : Fraction) (qs : List Fraction) → Held k x q → AllHeld k ys qs → Held k (best k x ys) (fold greater q qs)
  best_folded x [] q [] h a = h
  best_folded x [] q (_ ∷ _) h a = absurd a
  best_folded x (y ∷ ys) q [] h a = absurd a
  best_folded x (y ∷ ys) q (p ∷ ps) h a = best_folded (k.better x y) ys (greater q p) ps (k.rules.better_holds x y q p h a.0) a.1

  best_aged : (x : V) (ys : List V) → k.age (best k x ys) ≡ oldest_from k (k.age x) ys
  best_aged x [] = refl
  best_aged x (y ∷ ys) = best_aged (k.better x y) ys ∙ ap (λ a. oldest_from k a ys) (k.rules.better_age x y)

  pub best_holds : (x : V) (ys : List V) (r : V) → r ≡ best k x ys → BestHolds k x ys r
  best_holds x ys r e g q qs h a top = rw e (greatest-held _ _ _ g q qs top (best_folded x ys q qs h a))

  pub best_age : (x : V) (ys : List V) (r : V) → r ≡ best k x ys → k.age r ≡ oldest_from k (k.age x) ys
  best_age x ys r e = ap k.age e ∙ best_aged x ys
