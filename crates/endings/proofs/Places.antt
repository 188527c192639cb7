-- Places of sides.
use Rattle.std.proofs.Common.{◌≡◌, ℕ, zero, suc, ◌-◌, ◌<◌, ◌≤◌, true, cond, leb, List, [], ◌∷◌, length, get_or, sum, count_by, refl, ap, ◌∙◌, inl, inr, arith}
use Rattle.std.proofs.lemmas.List.{get_or-set_same, get_or-set_other}
use Rattle.std.proofs.lemmas.List.Sums.{sum_by-cons, count_by-le-length}
use Rattle.std.proofs.lemmas.Bool.{leb-true}
use Rattle.board.specs.Side.{on, less, shifted}
use Rattle.listing.specs.Listing.{In}
use Rattle.endings.specs.Place.{before, upto, sides, place, places_of, counts}
use Rattle.endings.proofs.Lists.{every, in_every}
use Rattle.endings.proofs.Counting.{counted, passed, count_less}
use Rattle.endings.proofs.Before.{not_self, in_turn, later_not, either, first-less}
use Rattle.endings.proofs.Sorted.{Sorted, upto_in, sides_all, sides_sorted}

-- places keep the order
pub place-less : (n : ℕ) (a b : List ℕ) → sum (counts a) ≤ n → before (counts a) (counts b) ≡ true → place n a < place n b
unfolding place
place-less n a b l e =
    count_less (λ cs. before cs (counts a)) (λ cs. before cs (counts b)) (λ cs f. in_turn cs (counts a) (counts b) f e) (counts a) (sides 6 n)
    (sides_all 6 n (counts a) refl l) (not_self (counts a)) e

pub place-within : (n : ℕ) (a : List ℕ) → sum (counts a) ≤ n → place n a < places_of n
unfolding place places_of
place-within n a l =
    let h = count_less (λ cs. before cs (counts a)) (λ cs. true) (λ cs f. refl) (counts a) (sides 6 n) (sides_all 6 n (counts a) refl l) (not_self (counts a)) refl in
    omega (arith, h, count_by-le-length (λ (cs : List ℕ). true) (sides 6 n))

-- a checker that moves to a lower point, or off, makes the place smaller
pub place-moved : (n : ℕ) (side : List ℕ) (s t : ℕ) → 1 ≤ s → s ≤ 6 → t < s → s < length side → 0 < on side s → sum (counts (shifted side s t)) ≤ n → place n (shifted side s t) < place n side
place-moved n side s t i j k w has l =
    let st : s ≡ t → ⊥ = λ z. omega arith in
    let at : on (shifted side s t) s ≡ on side s - 1 = get_or-set_other (less side s) t s _ 0 st ∙ get_or-set_same side s _ 0 w in
    place-less n (shifted side s t) side l
    (first-less 6 s (shifted side s t) side i j
    (λ q m.
    let a : q ≡ t → ⊥ = λ z. omega arith in
    let b : q ≡ s → ⊥ = λ z. omega arith in
    get_or-set_other (less side s) t q _ 0 a ∙ get_or-set_other side s q _ 0 b)
    (omega (arith, at)))

none_counted : (x : List ℕ) (xs : List (List ℕ)) → ((y : List ℕ) → In y xs → before x y ≡ true) → count_by (λ c. before c x) xs ≡ 0
none_counted x [] h = refl
none_counted x (y ∷ ys) h =
    omega (arith, sum_by-cons (λ c. cond (before c x) 1 0) y ys, passed (before y x) (later_not x y (h y (inl refl))), none_counted x ys (λ z i. h z (inr i)))

pub in_get_d : (xs : List (List ℕ)) (i : ℕ) (d : List ℕ) → i < length xs → In (get_or xs i d) xs
in_get_d [] i d l = absurd (omega arith)
in_get_d (x ∷ xs) zero d l = inl refl
in_get_d (x ∷ xs) (suc i) d l = inr (in_get_d xs i d (omega arith))

pub sorted_count : (xs : List (List ℕ)) (i : ℕ) (d : List ℕ) → Sorted xs → i < length xs → count_by (λ c. before c (get_or xs i d)) xs ≡ i
sorted_count [] i d o l = absurd (omega arith)
sorted_count (x ∷ xs) zero d o l = omega (arith, sum_by-cons (λ c. cond (before c x) 1 0) x xs, passed (before x x) (not_self x), none_counted x xs o.0)
sorted_count (x ∷ xs) (suc i) d o l =
    let e = o.0 (get_or xs i d) (in_get_d xs i d (omega arith)) in
    omega (arith, sum_by-cons (λ c. cond (before c (get_or xs i d)) 1 0) x xs, counted (before x (get_or xs i d)) e, sorted_count xs i d o.1 (omega arith))

-- the side with the ith counts has the place i
pub place_nth : (n i : ℕ) (side : List ℕ) → i < places_of n → counts side ≡ get_or (sides 6 n) i [] → place n side ≡ i
unfolding place places_of
place_nth n i side l e = ap (λ cs. count_by (λ c. before c cs) (sides 6 n)) e ∙ sorted_count (sides 6 n) i [] (sides_sorted 6 n) l

pub place-counts : (n : ℕ) (a b : List ℕ) → sum (counts a) ≤ n → sum (counts b) ≤ n → place n a ≡ place n b → counts a ≡ counts b
place-counts n a b i j e =
    elim (either 6 a b)
    [ inl h ↦ absurd (omega (arith, place-less n a b i h, e)) | inr h ↦ elim h [ inl h' ↦ absurd (omega (arith, place-less n b a j h', e)) | inr h' ↦ h' ] ]

pub sizes : (places_of 1 ≡ 7) × (places_of 2 ≡ 28) × (places_of 3 ≡ 84) × (places_of 4 ≡ 210) × (places_of 5 ≡ 462) × (places_of 6 ≡ 924)
unfolding places_of sides
sizes = (refl, refl, refl, refl, refl, refl)

small : every (λ n. leb (places_of n) 924) (upto (λ n. n ∷ []) 6) ≡ true
unfolding places_of sides
small = refl

pub places_few : (n : ℕ) → n ≤ 6 → places_of n ≤ 924
places_few n l = leb-true (places_of n) 924 (in_every (λ n. leb (places_of n) 924) n (upto (λ n. n ∷ []) 6) small (upto_in n (λ n. n ∷ []) 6 n l (inl refl)))
