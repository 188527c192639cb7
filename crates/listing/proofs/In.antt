-- What is in a list, and in order there.
use Rattle.std.proofs.Common.{◌≡◌, ℕ, zero, suc, ◌<◌, ◌≤◌, Bool, true, false, cond, ◌⊎◌, List, [], ◌∷◌, ◌++◌, map, refl, ap, inl, inr, arith}
use Rattle.std.proofs.lemmas.Bool.{cases_lt}
use Rattle.turns.specs.Runs.{Move}
use Rattle.listing.specs.Listing.{In, Earlier, Ordered}
use Rattle.listing.specs.Order.{down}

pub in_cases : {X : Type 0} (x : X) (xs ys : List X) → In x (xs ++ ys) → In x xs ⊎ In x ys
in_cases x [] ys i = inr i
in_cases x (z ∷ xs) ys (inl e) = inl (inl e)
in_cases x (z ∷ xs) ys (inr i) = elim (in_cases x xs ys i) [ inl j ↦ inl (inr j) | inr j ↦ inr j ]

pub in_left : {X : Type 0} (x : X) (xs ys : List X) → In x xs → In x (xs ++ ys)
in_left x [] ys i = absurd i
in_left x (z ∷ xs) ys (inl e) = inl e
in_left x (z ∷ xs) ys (inr i) = inr (in_left x xs ys i)

pub in_right : {X : Type 0} (x : X) (xs ys : List X) → In x ys → In x (xs ++ ys)
in_right x [] ys i = i
in_right x (z ∷ xs) ys i = inr (in_right x xs ys i)

pub in_map : {X Y : Type 0} (f : X → Y) (y : Y) (xs : List X) → In y (map f xs) → (x : X) × (y ≡ f x) × In x xs
in_map f y [] i = absurd i
in_map f y (x ∷ xs) (inl e) = (x, e, inl refl)
in_map f y (x ∷ xs) (inr i) = let r = in_map f y xs i in (r.0, r.1, inr r.2)

pub map_in : {X Y : Type 0} (f : X → Y) (x : X) (xs : List X) → In x xs → In (f x) (map f xs)
map_in f x [] i = absurd i
map_in f x (z ∷ xs) (inl e) = inl (ap f e)
map_in f x (z ∷ xs) (inr i) = inr (map_in f x xs i)

pub in_cond : {X : Type 0} (x : X) (c : Bool) (xs : List X) → In x (cond c xs []) → (c ≡ true) × In x xs
in_cond x true xs i = (refl, i)
in_cond x false xs i = absurd i

pub in_down : {X : Type 0} (x : X) (f : ℕ → List X) (n : ℕ) → In x (down f n) → (k : ℕ) × (1 ≤ k) × (k ≤ n) × In x (f k)
unfolding down
in_down x f zero i = absurd i
in_down x f (suc n) i =
    elim (in_cases x (f (suc n)) (down f n) i)
    [ inl j ↦ (suc n, omega arith, omega arith, j) | inr j ↦ (let r = in_down x f n j in (r.0, r.1, omega (arith, r.2), r.3)) ]

pub down_in : {X : Type 0} (x : X) (f : ℕ → List X) (n k : ℕ) → 1 ≤ k → k ≤ n → In x (f k) → In x (down f n)
unfolding down
down_in x f zero k l m i = absurd (omega arith)
down_in x f (suc n) k l m i =
    elim (cases_lt n k) [
      | inl h ↦ (let e : k ≡ suc n = omega arith in in_left x (f (suc n)) (down f n) (rw e at i))
      | inr h ↦ in_right x (f (suc n)) (down f n) (down_in x f n k l h i)
    ]

-- what is given at some die and start
pub in_moves : {X : Type 0} (x : X) (f : ℕ → ℕ → List X) → In x (down (λ d. down (f d) 25) 6) → (d : ℕ) × (s : ℕ) × In x (f d s)
in_moves x f i =
    let d = in_down x (λ d. down (f d) 25) 6 i in
    let s = in_down x (f d.0) 25 d.3 in
    (d.0, s.0, s.3)

pub moves_in : {X : Type 0} (x : X) (f : ℕ → ℕ → List X) (d s : ℕ) → (1 ≤ d) × (d ≤ 6) → (1 ≤ s) × (s ≤ 25) → In x (f d s) → In x (down (λ d. down (f d) 25) 6)
moves_in x f d s die start i = down_in x (λ d. down (f d) 25) 6 d die.0 die.1 (down_in x (f d) 25 s start.0 start.1 i)

ordered-append : (xs ys : List (List Move)) → Ordered xs → Ordered ys → ((x y : List Move) → In x xs → In y ys → Earlier x y) → Ordered (xs ++ ys)
ordered-append [] ys o p cross = p
ordered-append (x ∷ xs) ys o p cross =
    (λ u i. elim (in_cases u xs ys i) [ inl j ↦ o.0 u j | inr j ↦ cross x u (inl refl) j ], ordered-append xs ys o.1 p (λ a c i j. cross a c (inr i) j))

pub ordered-down : (f : ℕ → List (List Move)) (n : ℕ) → ((k : ℕ) → Ordered (f k)) → ((j k : ℕ) (x y : List Move) → k < j → In x (f j) → In y (f k) → Earlier x y) → Ordered (down f n)
unfolding down
ordered-down f zero each cross = tt
ordered-down f (suc n) each cross =
    ordered-append (f (suc n)) (down f n) (each (suc n)) (ordered-down f n each cross)
    (λ x y i j. let r = in_down y f n j in cross (suc n) r.0 x y (omega (arith, r.2)) i r.3)

pub ordered-map : (m : Move) (us : List (List Move)) → Ordered us → Ordered (map (λ u. m ∷ u) us)
ordered-map m [] o = tt
ordered-map m (u ∷ us) o =
    (λ t i. let r = in_map (λ v. m ∷ v) t us i in rw r.1 (inr (inr (refl, refl, o.0 r.0 r.2))), ordered-map m us o.1)

pub ordered-cond : (c : Bool) (ts : List (List Move)) → Ordered ts → Ordered (cond c ts [])
ordered-cond true ts o = o
ordered-cond false ts o = tt
