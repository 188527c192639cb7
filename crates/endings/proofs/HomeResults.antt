-- The sides that the turns of a roll lead to, on seven counts.
use Rattle.std.proofs.Common.{◌≡◌, ℕ, zero, suc, ◌-◌, Bool, false, cond, eqb, ltb, None, List, [], ◌∷◌, map, length, sum, sym, ap, ◌∙◌, subst, inl, inr, arith, length-set}
use mathlib.Core.List.{map-map}
use Rattle.std.proofs.lemmas.Bool.{cases_Bool, eqb-false}
use Rattle.board.specs.Side.{on, less, shifted, checkers}
use Rattle.board.specs.Position.{Position, swapped}
use Rattle.turns.specs.Roll.{rolled}
use Rattle.turns.specs.Runs.{played}
use Rattle.listing.specs.Order.{off, down, listed}
use Rattle.listing.specs.Listing.{In}
use Rattle.listing.proofs.In.{in_map, map_in, in_down, in_cond}
use Rattle.listing.proofs.Listed.{listed_is}
use Rattle.endings.specs.Ending.{Ending}
use Rattle.endings.specs.Rolls.{TwoDice, rolls}
use Rattle.endings.proofs.Rolls.{rolls-fine}
use Rattle.endings.proofs.Leads.{turn_leads}
use Rattle.endings.proofs.Lengths.{sound}
use Rattle.endings.proofs.Full.{listed_full}
use Rattle.endings.proofs.Wide.{inside}
use Rattle.endings.proofs.Afters.{afters-turns}
use Rattle.endings.proofs.HomeMoves.{at, home_may}
use Rattle.endings.proofs.HomeTurns.{home_afters, quick}

-- the last checker is off
abbrev pub empty : List ℕ → Bool
empty a = eqb (on a 0) checkers

-- the sides after the turns of a roll, in listing order
abbrev pub results : List ℕ → TwoDice → List (List ℕ)
results a r = let dice = rolled r.0 r.1 in home_afters (sum dice) a dice

abbrev by_start : ℕ → List ℕ → List ℕ → ℕ → ℕ → List (List ℕ)
by_start n a dice d s = cond (home_may a s d) (home_afters n (shifted a s (s - d)) (less dice d)) []

abbrev rows_by_die : ℕ → List ℕ → List ℕ → ℕ → List (List ℕ)
rows_by_die n a dice d = cond (ltb 0 (on dice d)) (down (by_start n a dice d) 6) []

shifted-same : (a : List ℕ) (s t : ℕ) → length (shifted a s t) ≡ length a
shifted-same a s t = length-set (less a s) t _ ∙ length-set a s _

module _ (n : ℕ) (a dice c : List ℕ) (again : (b dice : List ℕ) → In c (home_afters n b dice) → length c ≡ length b) where
  start_long : (d s : ℕ) → In c (by_start n a dice d s) → length c ≡ length a
  start_long d s i = again (shifted a s (s - d)) (less dice d) (in_cond c (home_may a s d) _ i).1 ∙ shifted-same a s (s - d)

  die_long : (d : ℕ) → In c (rows_by_die n a dice d) → length c ≡ length a
  die_long d i = let s = in_down c (by_start n a dice d) 6 (in_cond c (ltb 0 (on dice d)) _ i).1 in start_long d s.0 s.3

pub results_long : (n : ℕ) (a dice c : List ℕ) → In c (home_afters n a dice) → length c ≡ length a
unfolding home_afters
results_long zero a dice c (inl e) = ap length e
results_long zero a dice c (inr i) = absurd i
results_long (suc n) a dice c i =
    elim (cases_Bool (empty a)) [
      | inl e ↦ (let j : In c (a ∷ []) = rw e at i in elim j [ inl z ↦ ap length z | inr z ↦ absurd z ])
      | inr e ↦
          (let j : In c (down (rows_by_die n a dice) 6) = rw e at i in
          let d = in_down c (rows_by_die n a dice) 6 j in
          die_long n a dice c (λ b dice' k. results_long n b dice' c k) d.0 d.3)
    ]

module _ (a b : List ℕ) (e : Ending (at a b)) (l : length a ≡ 7) (m : length b ≡ 7) (r : TwoDice) (i : In r rolls) where
  -- what the turns lead to does not depend on the other side
  pub led_to : map (played (at a b)) (listed (at a b) r.0 r.1) ≡ map (λ c. at c b) (results a r)
  led_to =
      let d = rolls-fine r i in
      ap (map (played (at a b))) (listed_full (at a b) r.0 r.1 e d)
      ∙ afters-turns None (sum (rolled r.0 r.1)) (at a b) (rolled r.0 r.1)
      ∙ quick (sum (rolled r.0 r.1)) a b (rolled r.0 r.1) l m

  pub next : (c : List ℕ) → In c (results a r) → empty c ≡ false → Ending (at b c) × (length c ≡ 7)
  next c j o =
      let d = rolls-fine r i in
      let k : length c ≡ 7 = results_long _ a _ c j ∙ l in
      let q : In (at c b) (map (played (at a b)) (listed (at a b) r.0 r.1)) = subst (In (at c b)) (sym led_to) (map_in (λ c. at c b) c (results a r) j) in
      let t = in_map (played (at a b)) (at c b) _ q in
      let al = (listed_is (at a b) r.0 r.1 (sound (at a b) e)).only t.0 t.2 in
      let z : on (played (at a b) t.0).own 0 ≡ on c 0 = ap (λ (p : Position). on p.own 0) (sym t.1) ∙ inside c k 0 (omega arith) in
      let v = turn_leads (at a b) r.0 r.1 t.0 e d al (λ y. eqb-false (on c 0) checkers o (sym z ∙ y)) in
      (subst (λ p. Ending (swapped p)) (sym t.1) v.0, k)

  pub empty-at : (c : List ℕ) → In c (results a r) → off (at c b) ≡ empty c
  empty-at c j = ap (λ v. eqb v checkers) (inside c (results_long _ a _ c j ∙ l) 0 (omega arith))

  -- what is reckoned from the positions after the turns
  pub led_map : (g : Position → ℕ) → map (λ t. g (played (at a b) t)) (listed (at a b) r.0 r.1) ≡ map (λ c. g (at c b)) (results a r)
  led_map g = sym (map-map g (played (at a b)) (listed (at a b) r.0 r.1)) ∙ ap (map g) led_to ∙ map-map g (λ c. at c b) (results a r)
