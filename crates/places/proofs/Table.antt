-- The table of ways.
use Rattle.std.proofs.Common.{◌≡◌, ℕ, zero, suc, ◌+◌, ◌-◌, ◌≤◌, Bool, true, ◌&&◌, eqb, leb, List, [], ◌∷◌, get_or, sym, refl, ap, ◌∙◌, inl, arith}
use lib.ListN.{length-map}
use Rattle.std.proofs.lemmas.Bool.{and_parts, eqb-true, leb-true}
use Rattle.listing.specs.Listing.{In}
use Rattle.endings.specs.Place.{upto, sides, places_of}
use Rattle.endings.proofs.Lists.{every, in_every}
use Rattle.endings.proofs.Sorted.{upto_in}
use Rattle.places.specs.Ways.{ways}
use Rattle.places.proofs.ByWays.{gone, gone_is, ways-more}

abbrev pub table : List (List ℕ)
table =
    (1 ∷ 1 ∷ 1 ∷ 1 ∷ 1 ∷ 1 ∷ 1 ∷ [])
    ∷ (1 ∷ 2 ∷ 3 ∷ 4 ∷ 5 ∷ 6 ∷ 7 ∷ [])
    ∷ (1 ∷ 3 ∷ 6 ∷ 10 ∷ 15 ∷ 21 ∷ 28 ∷ [])
    ∷ (1 ∷ 4 ∷ 10 ∷ 20 ∷ 35 ∷ 56 ∷ 84 ∷ [])
    ∷ (1 ∷ 5 ∷ 15 ∷ 35 ∷ 70 ∷ 126 ∷ 210 ∷ [])
    ∷ (1 ∷ 6 ∷ 21 ∷ 56 ∷ 126 ∷ 252 ∷ 462 ∷ [])
    ∷ (1 ∷ 7 ∷ 28 ∷ 84 ∷ 210 ∷ 462 ∷ 924 ∷ [])
    ∷ []

abbrev pub entry : ℕ → ℕ → ℕ
entry k n = get_or (get_or table k []) n 0

abbrev nums : List ℕ
nums = upto (λ k. k ∷ []) 6

in_nums : (k : ℕ) → k ≤ 6 → In k nums
in_nums k l = upto_in k (λ k. k ∷ []) 6 k l (inl refl)

abbrev fits-table : ℕ → ℕ → Bool
fits-table k n = eqb (entry k n) (ways k n) && leb (entry k n) 924

all_fit : every (λ k. every (fits-table k) nums) nums ≡ true
unfolding ways sides
all_fit = refl

pub at_table : (k n : ℕ) → k ≤ 6 → n ≤ 6 → (entry k n ≡ ways k n) × (entry k n ≤ 924)
at_table k n i j =
    let a = in_every (λ k. every (fits-table k) nums) k nums all_fit (in_nums k i) in
    let b = and_parts (eqb (entry k n) (ways k n)) _ (in_every (fits-table k) n nums a (in_nums n j)) in
    (eqb-true _ _ b.0, leb-true _ _ b.1)

pub all_ways : (n : ℕ) → ways 6 n ≡ places_of n
unfolding ways places_of
all_ways n = refl

-- one point less or one checker less
pub ways-step : (p m : ℕ) → 1 ≤ p → 1 ≤ m → ways p m ≡ ways (p - 1) m + ways p (m - 1)
ways-step zero m i j = absurd (omega arith)
ways-step (suc k) zero i j = absurd (omega arith)
ways-step (suc k) (suc m) i j =
    let a : suc k - 1 ≡ k = omega arith in
    let b : suc m - 1 ≡ m = omega arith in
    rw (a, b) (ways-more k m)

pub ways_none : (k : ℕ) → ways k 0 ≡ 1
unfolding ways sides
ways_none zero = refl
ways_none (suc k) = length-map (sides k 0) (λ cs. 0 ∷ cs) ∙ ways_none k

pub no_points : (n : ℕ) → ways 0 n ≡ 1
unfolding ways sides
no_points n = refl

-- fewer checkers have fewer ways
pub fewer : (p n m : ℕ) → 1 ≤ p → m ≤ n → ways p m ≤ ways p n
fewer zero n m i l = absurd (omega arith)
fewer (suc k) n m i l =
    let e : n - (n - m) ≡ m = omega arith in
    let h : gone k n (n - m) + ways (suc k) m ≡ ways (suc k) n = ap (λ v. gone k n (n - m) + ways (suc k) v) (sym e) ∙ gone_is k n (n - m) (omega arith) in
    omega (arith, h)
