-- What one checker's shift does to a home side.
use Rattle.std.proofs.Common.{◌≡◌, ℕ, zero, suc, ◌+◌, ◌-◌, ◌*◌, ◌<◌, ◌≤◌, List, [], ◌∷◌, length, get_or, set, ◌∙◌, inl, inr, arith, length-set}
use Rattle.std.proofs.lemmas.List.{get_or-set_other}
use Rattle.std.proofs.lemmas.Bool.{cases_lt}
use Rattle.board.specs.Side.{on, less, shifted}
use Rattle.board.proofs.Sides.{shifted_complete}
use Rattle.endings.specs.Ending.{Home}
use Rattle.endings.specs.Pips.{pips_from, pips}

pub pips_set : (k : ℕ) (xs : List ℕ) (i y : ℕ) → i < length xs → pips_from k (set xs i y) + (k + i) * get_or xs i 0 ≡ pips_from k xs + (k + i) * y
pips_set k [] i y l = absurd (omega arith)
pips_set k (x ∷ xs) zero y l = omega arith
pips_set k (x ∷ xs) (suc i) y l =
    let e : suc k + i ≡ k + suc i = omega arith in
    let h = rw e at (pips_set (suc k) xs i y (omega arith)) in
    omega (arith, h)

shift_sum : (a b c s t x y : ℕ) → 0 < x → a + (0 + s) * x ≡ b + (0 + s) * (x - 1) → c + (0 + t) * y ≡ a + (0 + t) * (y + 1) → c + s ≡ b + t
shift_sum a b c s t zero y l e f = absurd (omega arith)
shift_sum a b c s t (suc x) y l e f =
    let z : suc x - 1 ≡ x = omega arith in
    let e' : a + (0 + s) * suc x ≡ b + (0 + s) * x = rw z at e in
    omega (arith, e', f)

module _ (side : List ℕ) (s t : ℕ) (h : Home side) (i : 1 ≤ s) (j : s ≤ 25) (k : t < s) (has : 0 < on side s) where
  pub start_home : s ≤ 6
  start_home = elim (cases_lt 6 s) [ inl l ↦ absurd (omega (arith, h.none s l j)) | inr l ↦ l ]

  pub shifted_home : Home (shifted side s t)
  shifted_home =
      record {
        long = length-set (less side s) t _ ∙ length-set side s _ ∙ h.long;
        complete = shifted_complete side s t (omega (arith, h.long)) (omega (arith, h.long)) h.complete has;
        none = λ q l m.
            let a : q ≡ t → ⊥ = λ z. omega (arith, start_home) in
            let b : q ≡ s → ⊥ = λ z. omega (arith, start_home) in
            get_or-set_other (less side s) t q _ 0 a ∙ get_or-set_other side s q _ 0 b ∙ h.none q l m;
      }

  pub shifted-pips : pips (shifted side s t) + s ≡ pips side + t
  shifted-pips =
      let l : t < length (less side s) = rw (length-set side s (on side s - 1)) (omega (arith, h.long)) in
      let a = pips_set 0 side s (on side s - 1) (omega (arith, h.long)) in
      let b = pips_set 0 (less side s) t (on (less side s) t + 1) l in
      shift_sum (pips (less side s)) (pips side) (pips (shifted side s t)) s t (on side s) (on (less side s) t) has a b
