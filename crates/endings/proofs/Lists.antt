-- Greatest values and sums over lists.
use Rattle.std.proofs.Common.{◌≡◌, ℕ, ◌*◌, ◌≤◌, Bool, true, false, ◌&&◌, ◌||◌, List, [], ◌∷◌, map, sum_by, sym, refl, inl, inr, mul-le-mul_left, arith}
use Rattle.std.proofs.lemmas.List.Sums.{sum_by-cons}
use Rattle.std.proofs.lemmas.Bool.{and_parts, or_cases, false≢true}
use Rattle.listing.specs.Listing.{In}
use Rattle.listing.specs.Order.{greatest}
use Rattle.listing.proofs.In.{in_map, map_in}
use Rattle.listing.proofs.Listed.{greatest_bound, greatest_in}

pub map_same : {X Y : Type 0} (f g : X → Y) (xs : List X) → ((x : X) → In x xs → f x ≡ g x) → map f xs ≡ map g xs
map_same f g [] e = refl
map_same f g (x ∷ xs) e = rw (e x (inl refl), map_same f g xs (λ y i. e y (inr i)))

pub mapped_bound : {X : Type 0} (f : X → ℕ) (x : X) (xs : List X) → In x xs → f x ≤ greatest (map f xs)
mapped_bound f x xs i = greatest_bound (f x) (map f xs) (map_in f x xs i)

-- the greatest over a list that is not empty is reached
pub greatest-reached : {X : Type 0} (f : X → ℕ) (x : X) (xs : List X) → In x xs → (y : X) × In y xs × (f y ≡ greatest (map f xs))
greatest-reached f x xs i =
    elim (greatest_in (map f xs)) [
      | inl z ↦ (x, i, omega (arith, z, mapped_bound f x xs i))
      | inr j ↦ (let y = in_map f (greatest (map f xs)) xs j in (y.0, y.2, sym y.1))
    ]

pub greatest_le : {X : Type 0} (f : X → ℕ) (w : ℕ) (xs : List X) → ((x : X) → In x xs → f x ≤ w) → greatest (map f xs) ≤ w
greatest_le f w [] h = omega arith
greatest_le f w (x ∷ xs) h = omega (arith, h x (inl refl), greatest_le f w xs (λ y i. h y (inr i)))

pub greatest_scaled : {X : Type 0} (f g : X → ℕ) (xs : List X) → ((x : X) → In x xs → f x ≡ 36 * g x) → greatest (map f xs) ≡ 36 * greatest (map g xs)
greatest_scaled f g [] e = refl
greatest_scaled f g (x ∷ xs) e = omega (arith, e x (inl refl), greatest_scaled f g xs (λ y i. e y (inr i)))

pub sum_scaled : {X : Type 0} (f g : X → ℕ) (xs : List X) → ((x : X) → In x xs → f x ≡ 36 * g x) → sum_by f xs ≡ 36 * sum_by g xs
sum_scaled f g [] e = refl
sum_scaled f g (x ∷ xs) e = omega (arith, e x (inl refl), sum_scaled f g xs (λ y i. e y (inr i)), sum_by-cons f x xs, sum_by-cons g x xs)

pub sum_same : {X : Type 0} (f g : X → ℕ) (xs : List X) → ((x : X) → In x xs → f x ≡ g x) → sum_by f xs ≡ sum_by g xs
sum_same f g [] e = refl
sum_same f g (x ∷ xs) e = omega (arith, e x (inl refl), sum_same f g xs (λ y i. e y (inr i)), sum_by-cons f x xs, sum_by-cons g x xs)

pub sum_weighted : {X : Type 0} (w f : X → ℕ) (m : ℕ) (xs : List X) → ((x : X) → In x xs → f x ≤ m) → sum_by (λ x. w x * f x) xs ≤ sum_by w xs * m
sum_weighted w f m [] h = omega arith
sum_weighted w f m (x ∷ xs) h =
    rw (sum_by-cons w x xs)
    (omega (arith, mul-le-mul_left (w x) (h x (inl refl)), sum_weighted w f m xs (λ y i. h y (inr i)), sum_by-cons (λ y. w y * f y) x xs))

abbrev pub every : {X : Type 0} → (X → Bool) → List X → Bool
every p [] = true
every p (x ∷ xs) = p x && every p xs

pub in_every : {X : Type 0} (p : X → Bool) (x : X) (xs : List X) → every p xs ≡ true → In x xs → p x ≡ true
in_every p x [] e i = absurd i
in_every p x (y ∷ ys) e (inl z) = rw z (and_parts (p y) (every p ys) e).0
in_every p x (y ∷ ys) e (inr i) = in_every p x ys (and_parts (p y) (every p ys) e).1 i

abbrev pub any : {X : Type 0} → (X → Bool) → List X → Bool
any p [] = false
any p (x ∷ xs) = p x || any p xs

pub any_in : {X : Type 0} (p : X → Bool) (xs : List X) → any p xs ≡ true → (x : X) × In x xs × (p x ≡ true)
any_in p [] e = absurd (false≢true e)
any_in p (x ∷ xs) e =
    elim (or_cases (p x) (any p xs) e) [ inl f ↦ (x, inl refl, f) | inr f ↦ (let r = any_in p xs f in (r.0, inr r.1, r.2)) ]
