-- What the better of several values holds, as the greatest of whole numbers over a power of 36, and its age.
use Rattle.std.proofs.Common.{◌≡◌, ℕ, max, List, [], ◌∷◌, map, fold, refl, subst, inl, inr, arith}
use Rattle.listing.specs.Order.{greatest}
use Rattle.listing.specs.Listing.{In}
use Rattle.chance.specs.Fraction.{over36}
use Rattle.chance.specs.Held.{Held}
use Rattle.chance.specs.declared.kind.Chance.{Ghosts}
use Rattle.chance.proofs.Powers.{nothing_over, greater_over}
use Rattle.values.specs.Best.{best_from_first}

module _ {V S R : Type 0} (k : Ghosts V S R) where
  -- the value holds a of 36 ^ n, and its age is b
  abbrev pub Aged : ℕ → V → ℕ → ℕ → Type 0
  Aged n v a b = Held k v (over36 n a) × (k.age v ≡ b)

  better_aged : {X : Type 0} (n : ℕ) (f : X → V) (g h : X → ℕ) (v : V) (a b : ℕ) (xs : List X) → Aged n v a b → ((x : X) → In x xs → Aged n (f x) (g x) (h x)) → Aged n (fold k.better v (map f xs)) (max a (greatest (map g xs))) (max b (greatest (map h xs)))
  better_aged n f g h v a b [] i e =
      let z : max a 0 ≡ a = omega arith in
      (rw z i.0, omega (arith, i.1))
  better_aged n f g h v a b (x ∷ xs) i e =
      let w = e x (inl refl) in
      let one = greater_over _ _ _ n a (g x) (k.rules.better_holds v (f x) (over36 n a) (over36 n (g x)) i.0 w.0) in
      let r = better_aged n f g h (k.better v (f x)) (max a (g x)) (max b (h x)) xs (one, omega (arith, k.rules.better_age v (f x), i.1, w.1)) (λ y l. e y (inr l)) in
      let z : max (max a (g x)) (greatest (map g xs)) ≡ max a (max (g x) (greatest (map g xs))) = omega arith in
      (subst (λ c. Held k (fold k.better (k.better v (f x)) (map f xs)) (over36 n c)) z r.0, omega (arith, r.1))

  pub best_aged : {X : Type 0} (n : ℕ) (f : X → V) (g h : X → ℕ) (xs : List X) → ((x : X) → In x xs → Aged n (f x) (g x) (h x)) → Aged n (best_from_first k (map f xs)) (greatest (map g xs)) (greatest (map h xs))
  best_aged n f g h [] e = (nothing_over _ _ _ n k.rules.lost_holds, k.rules.lost_age)
  best_aged n f g h (x ∷ xs) e = better_aged n f g h (f x) (g x) (h x) xs (e x (inl refl)) (λ y i. e y (inr i))
