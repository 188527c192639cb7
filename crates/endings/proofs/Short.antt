-- How long an ending with few checkers can last.
use Rattle.std.proofs.Common.{◌≡◌, ℕ, suc, ◌+◌, ◌*◌, ◌<◌, ◌≤◌, List, [], ◌∷◌, length, get_or, sum, inl, inr, mul-le-mul_right, arith}
use Rattle.std.proofs.lemmas.List.Sums.{sum_by-cons}
use Rattle.std.proofs.lemmas.Bool.{cases_lt}
use Rattle.board.specs.Position.{Position}
use Rattle.endings.specs.Ending.{Home, left, EndingFor}
use Rattle.endings.specs.Pips.{pips_from, pips}
use Rattle.endings.specs.Length.{length_of}
use Rattle.endings.proofs.Lengths.{length-pips}

-- with no checkers above place 6 each has six pips at most
few_pips : (k : ℕ) (xs : List ℕ) → ((i : ℕ) → i < length xs → 6 < k + i → get_or xs i 0 ≡ 0) → pips_from k xs ≤ 6 * sum xs
few_pips k [] none = omega arith
few_pips k (x ∷ xs) none =
    let r = few_pips (suc k) xs (λ i l m. none (suc i) (omega arith) (omega arith)) in
    elim (cases_lt 6 k) [
      | inl l ↦ (let z : x ≡ 0 = none 0 (omega arith) (omega arith) in rw z (omega (arith, r, sum_by-cons (λ y. y) 0 xs)))
      | inr l ↦ omega (arith, r, sum_by-cons (λ y. y) x xs, mul-le-mul_right x l)
    ]

pub pips_few : (side : List ℕ) → Home side → pips side ≤ 6 * left side
pips_few [] h = absurd (omega (arith, h.long))
pips_few (x ∷ xs) h =
    let r = few_pips 1 xs (λ i l m. h.none (suc i) (omega arith) (omega (arith, h.long))) in
    omega (arith, r, sum_by-cons (λ y. y) x xs, h.complete)

pub length_short : (n : ℕ) (p : Position) → EndingFor n p → length_of p ≤ 12 * n
length_short n p e =
    omega (arith, length-pips p, pips_few p.own e.ending.own, pips_few p.other e.ending.other, e.own, e.other)
