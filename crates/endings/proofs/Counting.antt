-- How many elements pass a test.
use Rattle.std.proofs.Common.{◌≡◌, ℕ, ◌<◌, ◌≤◌, Bool, true, false, cond, List, [], ◌∷◌, count_by, refl, inl, inr, arith}
use Rattle.std.proofs.lemmas.List.Sums.{sum_by-cons, sum_by-le-sum_by}
use Rattle.std.proofs.lemmas.Bool.{cases_Bool}
use Rattle.listing.specs.Listing.{In}

pub counted : (b : Bool) → b ≡ true → ◌≡◌ {A = ℕ} (cond b 1 0) 1
counted b e = rw e

pub passed : (b : Bool) → b ≡ false → ◌≡◌ {A = ℕ} (cond b 1 0) 0
passed b e = rw e

module _ {X : Type 0} (p q : X → Bool) (sub : (x : X) → p x ≡ true → q x ≡ true) where
  one_le : (x : X) → cond (p x) 1 0 ≤ cond (q x) 1 0
  one_le x =
      elim (cases_Bool (p x))
      [ inl e ↦ omega (arith, counted (p x) e, counted (q x) (sub x e)) | inr e ↦ omega (arith, passed (p x) e) ]

  pub count_le : (xs : List X) → count_by p xs ≤ count_by q xs
  count_le xs = sum_by-le-sum_by (λ x. cond (p x) 1 0) (λ x. cond (q x) 1 0) xs one_le

  pub count_less : (x : X) (xs : List X) → In x xs → p x ≡ false → q x ≡ true → count_by p xs < count_by q xs
  count_less x [] i e f = absurd i
  count_less x (y ∷ ys) (inl z) e f =
      let e' : p y ≡ false = rw z at e in
      let f' : q y ≡ true = rw z at f in
      omega (arith, sum_by-cons (λ y. cond (p y) 1 0) y ys, sum_by-cons (λ y. cond (q y) 1 0) y ys, passed (p y) e', counted (q y) f', count_le ys)
  count_less x (y ∷ ys) (inr i) e f =
      omega (arith, sum_by-cons (λ y. cond (p y) 1 0) y ys, sum_by-cons (λ y. cond (q y) 1 0) y ys, one_le y, count_less x ys i e f)

pub count_none : {X : Type 0} (p : X → Bool) (xs : List X) → ((x : X) → p x ≡ false) → count_by p xs ≡ 0
count_none p [] e = refl
count_none p (x ∷ xs) e = omega (arith, sum_by-cons (λ y. cond (p y) 1 0) x xs, passed (p x) (e x), count_none p xs e)
