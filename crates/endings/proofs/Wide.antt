-- Home sides by seven counts: those borne off, and those on points 1 to 6.
use Rattle.std.proofs.Common.{◌≡◌, ℕ, zero, suc, ◌+◌, ◌-◌, ◌<◌, ◌≤◌, List, [], ◌∷◌, ◌++◌, reverse, length, get_or, drop, replicate, sum, sym, refl, ap, ◌∙◌, inl, inr, arith, length-append}
use Rattle.std.proofs.lemmas.List.{get_or_append_left, get_or-append-add, get_or-replicate, ext_get_or}
use Rattle.std.proofs.lemmas.List.Sums.{sum_by-append, sum_by-drop_more}
use Rattle.std.proofs.lemmas.Bool.{cases_lt, eqb-true, eq-eqb}
use Rattle.board.specs.Side.{on, checkers, Complete}
use Rattle.listing.proofs.Test.{clear_from, clear_true}
use Rattle.endings.specs.Ending.{Home}
use Rattle.endings.specs.Place.{counts_from, counts}

-- no checkers above point 6
abbrev pub wide : List ℕ → List ℕ
wide a = a ++ replicate 19 0

module _ (a : List ℕ) (l : length a ≡ 7) where
  pub inside : (q : ℕ) → q ≤ 6 → on (wide a) q ≡ on a q
  inside q i = get_or_append_left a (replicate 19 0) 0 q (omega (arith, l))

  pub beyond : (q : ℕ) → 6 < q → q ≤ 25 → on (wide a) q ≡ 0
  beyond q i j =
      let e : length a + (q - 7) ≡ q = omega (arith, l) in
      let h : on (wide a) (length a + (q - 7)) ≡ get_or (replicate 19 0) (q - 7) 0 = get_or-append-add a (replicate 19 0) (q - 7) 0 in
      let h' : on (wide a) q ≡ get_or (replicate 19 0) (q - 7) 0 = rw e at h in
      h' ∙ get_or-replicate {A = ℕ} 19 (q - 7) 0 0 (omega arith)

  pub wide_long : length (wide a) ≡ 26
  wide_long = length-append a (replicate 19 0) ∙ (rw l)

  pub wide-sum : sum (wide a) ≡ sum a
  wide-sum = omega (arith, sum_by-append (λ x. x) a (replicate 19 0))

  pub wide_home : sum a ≡ checkers → Home (wide a)
  wide_home e = record { long = wide_long; complete = wide-sum ∙ e; none = beyond }

-- a side's checkers are borne off, on points 1 to 6, or above
pub counts-sum : (side : List ℕ) → length side ≡ 26 → sum side ≡ on side 0 + sum (counts side) + sum (drop 7 side)
counts-sum side l =
    let d : (k : ℕ) → k ≤ 6 → sum (drop k side) ≡ on side k + sum (drop (k + 1) side) = λ k m. sum_by-drop_more (λ x. x) side k 0 (omega (arith, l)) in
    omega (arith, d 0 (omega arith), d 1 (omega arith), d 2 (omega arith), d 3 (omega arith), d 4 (omega arith), d 5 (omega arith), d 6 (omega arith))

-- a home side has none above
pub counts-left : (side : List ℕ) → Home side → sum (counts side) + on side 0 ≡ checkers
counts-left side h = omega (arith, eqb-true _ 0 (clear_from side 6 h.long h.none), counts-sum side h.long, h.complete)

-- and a side that has none above and from which none is missing is home
pub counts_home : (side : List ℕ) → length side ≡ 26 → Complete side → sum (counts side) + on side 0 ≡ checkers → Home side
counts_home side l c e =
    let z : sum (drop (6 + 1) side) ≡ 0 = omega (arith, counts-sum side l) in
    record { long = l; complete = c; none = clear_true side 6 l (eq-eqb _ 0 z) }

counts-on : (k : ℕ) (a b : List ℕ) → counts_from k a ≡ counts_from k b → (q : ℕ) → 1 ≤ q → q ≤ k → on a q ≡ on b q
counts-on zero a b e q i j = absurd (omega arith)
counts-on (suc k) a b e q i j =
    elim (cases_lt q (suc k)) [
      | inl l ↦ counts-on k a b (ap (drop 1) e) q i (omega arith)
      | inr l ↦ (let z : q ≡ suc k = omega arith in rw z (ap (λ cs. get_or cs 0 0) e))
    ]

-- equal counts make one home side
pub home_same : (a b : List ℕ) → Home a → Home b → counts a ≡ counts b → a ≡ b
home_same a b h k e = ext_get_or 0 a b (h.long ∙ sym k.long) at
  where
    at : (i : ℕ) → i < length a → get_or a i 0 ≡ get_or b i 0
    at zero l = omega (arith, counts-left a h, counts-left b k, ap sum e)
    at (suc i) l =
        elim (cases_lt 6 (suc i)) [
          | inl m ↦ h.none (suc i) m (omega (arith, h.long)) ∙ sym (k.none (suc i) m (omega (arith, h.long)))
          | inr m ↦ counts-on 6 a b e (suc i) (omega arith) m
        ]

-- the home side with these counts, the one on point 6 first and that on 1 last
abbrev pub side_of : List ℕ → List ℕ
side_of cs = wide ((checkers - sum cs) ∷ reverse cs)

module _ (a b c d e f : ℕ) where
  side_sum : sum (a ∷ b ∷ c ∷ d ∷ e ∷ f ∷ []) ≤ checkers → sum ((checkers - sum (a ∷ b ∷ c ∷ d ∷ e ∷ f ∷ [])) ∷ f ∷ e ∷ d ∷ c ∷ b ∷ a ∷ []) ≡ checkers
  side_sum l = omega arith

pub side_of_fits : (cs : List ℕ) → length cs ≡ 6 → sum cs ≤ checkers → Home (side_of cs) × (counts (side_of cs) ≡ cs)
side_of_fits (a ∷ (b ∷ (c ∷ (d ∷ (e ∷ (f ∷ [])))))) z l =
    (wide_home ((checkers - sum (a ∷ b ∷ c ∷ d ∷ e ∷ f ∷ [])) ∷ f ∷ e ∷ d ∷ c ∷ b ∷ a ∷ []) refl (side_sum a b c d e f l), refl)
side_of_fits [] z l = absurd (omega arith)
side_of_fits (a ∷ []) z l = absurd (omega arith)
side_of_fits (a ∷ (b ∷ [])) z l = absurd (omega arith)
side_of_fits (a ∷ (b ∷ (c ∷ []))) z l = absurd (omega arith)
side_of_fits (a ∷ (b ∷ (c ∷ (d ∷ [])))) z l = absurd (omega arith)
side_of_fits (a ∷ (b ∷ (c ∷ (d ∷ (e ∷ []))))) z l = absurd (omega arith)
side_of_fits (a ∷ (b ∷ (c ∷ (d ∷ (e ∷ (f ∷ (g ∷ cs))))))) z l = absurd (omega arith)
