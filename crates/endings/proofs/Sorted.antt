-- The sides with at most n checkers: which there are, and that they stand in order.
use Rattle.std.proofs.Common.{◌≡◌, ℕ, zero, suc, ◌-◌, ◌<◌, ◌≤◌, true, eqb, ltb, List, [], ◌∷◌, ◌++◌, map, length, sum, sym, refl, ap, subst, inl, inr, arith}
use Rattle.std.proofs.lemmas.List.Sums.{sum_by-cons}
use Rattle.std.proofs.lemmas.Bool.{cases_lt, eq-eqb, lt-ltb, or_left, or_right, and_from}
use Rattle.listing.specs.Listing.{In}
use Rattle.listing.proofs.In.{in_cases, in_left, in_right, in_map, map_in}
use Rattle.endings.specs.Place.{before, upto, sides}

pub upto_in : {X : Type 0} (x : X) (f : ℕ → List X) (n k : ℕ) → k ≤ n → In x (f k) → In x (upto f n)
upto_in x f zero k l i = let e : k ≡ 0 = omega arith in subst (λ k. In x (f k)) e i
upto_in x f (suc n) k l i =
    elim (cases_lt k (suc n)) [
      | inl h ↦ in_left x (upto f n) (f (suc n)) (upto_in x f n k (omega arith) i)
      | inr h ↦ (let e : k ≡ suc n = omega arith in in_right x (upto f n) (f (suc n)) (subst (λ k. In x (f k)) e i))
    ]

pub sides_all : (k n : ℕ) (cs : List ℕ) → length cs ≡ k → sum cs ≤ n → In cs (sides k n)
unfolding sides
sides_all zero n [] e l = inl refl
sides_all zero n (c ∷ cs) e l = absurd (omega arith)
sides_all (suc k) n [] e l = absurd (omega arith)
sides_all (suc k) n (c ∷ cs) e l =
    let s = sum_by-cons (λ x. x) c cs in
    upto_in (c ∷ cs) (λ c. map (λ cs. c ∷ cs) (sides k (n - c))) n c (omega (arith, s)) (map_in (λ cs. c ∷ cs) cs (sides k (n - c)) (sides_all k (n - c) cs (omega arith) (omega (arith, s))))

abbrev pub Sorted : List (List ℕ) → Type 0
Sorted [] = Unit {0}
Sorted (x ∷ xs) = ((y : List ℕ) → In y xs → before x y ≡ true) × Sorted xs

sorted_append : (xs ys : List (List ℕ)) → Sorted xs → Sorted ys → ((x y : List ℕ) → In x xs → In y ys → before x y ≡ true) → Sorted (xs ++ ys)
sorted_append [] ys o p cross = p
sorted_append (x ∷ xs) ys o p cross =
    (λ y i. elim (in_cases y xs ys i) [ inl j ↦ o.0 y j | inr j ↦ cross x y (inl refl) j ], sorted_append xs ys o.1 p (λ a c i j. cross a c (inr i) j))

sorted_map : (c : ℕ) (xs : List (List ℕ)) → Sorted xs → Sorted (map (λ cs. c ∷ cs) xs)
sorted_map c [] o = tt
sorted_map c (x ∷ xs) o = (
  λ y i.
      let r = in_map (λ cs. c ∷ cs) y xs i in
      subst (λ y. before (c ∷ x) y ≡ true) (sym r.1) (or_right (ltb c c) _ (and_from (eqb c c) _ (eq-eqb c c refl) (o.0 r.0 r.2))),
  sorted_map c xs o.1,
)

in_upto : {X : Type 0} (x : X) (f : ℕ → List X) (n : ℕ) → In x (upto f n) → (k : ℕ) × (k ≤ n) × In x (f k)
in_upto x f zero i = (0, omega arith, i)
in_upto x f (suc n) i = elim (in_cases x (upto f n) (f (suc n)) i) [ inl j ↦ (let r = in_upto x f n j in (r.0, omega (arith, r.1), r.2)) | inr j ↦ (suc n, omega arith, j) ]

sorted_upto : (f : ℕ → List (List ℕ)) (n : ℕ) → ((c : ℕ) → Sorted (f c)) → ((c d : ℕ) (x y : List ℕ) → c < d → In x (f c) → In y (f d) → before x y ≡ true) → Sorted (upto f n)
sorted_upto f zero each cross = each 0
sorted_upto f (suc n) each cross =
    sorted_append (upto f n) (f (suc n)) (sorted_upto f n each cross) (each (suc n)) (λ x y i j. let r = in_upto x f n i in cross r.0 (suc n) x y (omega (arith, r.1)) r.2 j)

pub sides_sorted : (k n : ℕ) → Sorted (sides k n)
unfolding sides
sides_sorted zero n = (λ y i. absurd i, tt)
sides_sorted (suc k) n =
    sorted_upto (λ c. map (λ cs. c ∷ cs) (sides k (n - c))) n (λ c. sorted_map c (sides k (n - c)) (sides_sorted k (n - c)))
    (λ c d x y l i j.
    let p = in_map (λ cs. c ∷ cs) x (sides k (n - c)) i in
    let q = in_map (λ cs. d ∷ cs) y (sides k (n - d)) j in
    rw (p.1, q.1) (or_left (ltb c d) _ (lt-ltb c d l)))

pub sides-only : (k n : ℕ) (cs : List ℕ) → In cs (sides k n) → (length cs ≡ k) × (sum cs ≤ n)
unfolding sides
sides-only zero n cs (inl e) = rw e (refl, omega arith)
sides-only zero n cs (inr i) = absurd i
sides-only (suc k) n cs i =
    let c = in_upto cs (λ c. map (λ ds. c ∷ ds) (sides k (n - c))) n i in
    let d = in_map (λ ds. c.0 ∷ ds) cs (sides k (n - c.0)) c.2 in
    let r = sides-only k (n - c.0) d.0 d.2 in
    rw d.1 (ap suc r.0, omega (arith, r.1, c.1, sum_by-cons (λ x. x) c.0 d.0))
