-- From the length on the chance is one fraction.
use Rattle.std.proofs.Common.{◌≡◌, ℕ, zero, suc, ◌+◌, ◌-◌, ◌*◌, ◌^◌, ◌<◌, ◌≤◌, false, List, sum_by, sym, ap, ◌∙◌, inl, inr, pow-suc, arith}
use Rattle.std.proofs.Math.Nat.{pow-succ'}
use Rattle.std.proofs.lemmas.Bool.{cases_Bool, eqb-false}
use Rattle.board.specs.Side.{checkers}
use Rattle.board.specs.Position.{Position, swapped}
use Rattle.turns.specs.Roll.{Roll}
use Rattle.turns.specs.Runs.{Move, played}
use Rattle.turns.specs.Turns.{Allowed}
use Rattle.listing.specs.Listing.{In}
use Rattle.listing.specs.Order.{off, greatest, listed}
use Rattle.listing.proofs.Listed.{listed_is}
use Rattle.endings.specs.Ending.{Ending}
use Rattle.endings.specs.Rolls.{TwoDice, rolls, weight}
use Rattle.endings.specs.Chance.{after, best, chance}
use Rattle.endings.specs.Length.{length_of}
use Rattle.endings.specs.Exact.{exact, exact_loss}
use Rattle.endings.proofs.Lists.{greatest_scaled, sum_scaled, sum_same, map_same}
use Rattle.endings.proofs.Rolls.{rolls-fine}
use Rattle.endings.proofs.Leads.{turn_leads}
use Rattle.endings.proofs.Lengths.{sound, length_is, length-less}

module _ (p : Position) (r : TwoDice) (e : Ending p) (d : Roll r.0 r.1) where
  -- what an allowed turn of an ending leads to is done, or is an ending with a smaller length
  pub next : (t : List Move) → Allowed p r.0 r.1 t → off (played p t) ≡ false → Ending (swapped (played p t)) × (length_of (swapped (played p t)) < length_of p)
  next t a o = ((turn_leads p r.0 r.1 t e d a (eqb-false _ checkers o)).0, length-less p r.0 r.1 t e d a o)

  listed_allowed : (t : List Move) → In t (listed p r.0 r.1) → Allowed p r.0 r.1 t
  listed_allowed t i = (listed_is p r.0 r.1 (sound p e)).only t i

  -- the best of a roll rests on endings with a smaller length alone
  pub best-same : (w : ℕ) (f g : Position → ℕ) → ((q : Position) → Ending q → length_of q < length_of p → f q ≡ g q) → best w f p r ≡ best w g p r
  best-same w f g h =
      ap greatest
      (map_same (after w f p) (after w g p) (listed p r.0 r.1)
      (λ t i. elim (cases_Bool (off (played p t))) [ inl o ↦ rw o | inr o ↦ (let q = next t (listed_allowed t i) o in rw (o, h (swapped (played p t)) q.0 q.1)) ]))

  -- 36 times as much of 36 times the whole
  module _ (v w : ℕ) (f g : Position → ℕ) (z : v ≡ 36 * w) (h : (q : Position) → Ending q → length_of q < length_of p → f q ≡ 36 * g q) where
    pub after_scaled : (t : List Move) → Allowed p r.0 r.1 t → after v f p t ≡ 36 * after w g p t
    after_scaled t a =
        elim (cases_Bool (off (played p t)))
        [ inl o ↦ rw o z | inr o ↦ (let q = next t a o in rw o (omega (arith, z, h (swapped (played p t)) q.0 q.1))) ]

    pub best_scaled : best v f p r ≡ 36 * best w g p r
    best_scaled = greatest_scaled (after v f p) (after w g p) (listed p r.0 r.1) (λ t i. after_scaled t (listed_allowed t i))

-- one more roll than the length makes 36 times as much of 36 times the whole
pub chance-same : (n : ℕ) (p : Position) → Ending p → length_of p ≤ n → chance (suc n) p ≡ 36 * chance n p
unfolding chance
chance-same zero p e l = absurd (omega (arith, length_is p e))
chance-same (suc n) p e l =
    sum_scaled (λ r. weight r * best (36 ^ suc n) (chance (suc n)) p r) (λ r. weight r * best (36 ^ n) (chance n) p r) rolls
    (λ r i.
    let b = best_scaled p r e (rolls-fine r i) (36 ^ suc n) (36 ^ n) (chance (suc n)) (chance n) (pow-succ' 36 n) (λ q f k. chance-same n q f (omega arith)) in
    rw b (omega arith))

more-rolls : (k : ℕ) (p : Position) → Ending p → chance (k + length_of p) p ≡ 36 ^ k * chance (length_of p) p
more-rolls zero p e = let z : 0 + length_of p ≡ length_of p = omega arith in rw z (omega arith)
more-rolls (suc k) p e =
    let z : suc k + length_of p ≡ suc (k + length_of p) = omega arith in
    rw z (chance-same (k + length_of p) p e (omega arith) ∙ ap (λ v. 36 * v) (more-rolls k p e) ∙ rw (pow-suc 36 k) (omega arith))

-- from the length on the chance is the exact one
pub chance-exact : (n : ℕ) (p : Position) → Ending p → length_of p ≤ n → chance n p ≡ exact n p
unfolding exact
chance-exact n p e l = let z : (n - length_of p) + length_of p ≡ n = omega arith in ap (λ m. chance m p) (sym z) ∙ more-rolls (n - length_of p) p e

-- the exact chance by the exact chances after a turn, of one roll less
pub exact-step : (n : ℕ) (p : Position) → Ending p → length_of p ≤ suc n → exact (suc n) p ≡ sum_by (λ r. weight r * best (36 ^ n) (exact n) p r) rolls
unfolding chance
exact-step n p e l =
    sym (chance-exact (suc n) p e l)
    ∙ sum_same (λ r. weight r * best (36 ^ n) (chance n) p r) (λ r. weight r * best (36 ^ n) (exact n) p r) rolls
    (λ r i. ap (λ v. weight r * v) (best-same p r e (rolls-fine r i) (36 ^ n) (chance n) (exact n) (λ q f k. chance-exact n q f (omega arith))))

exact-more : (n : ℕ) (p : Position) → length_of p ≤ n → exact (suc n) p ≡ 36 * exact n p
unfolding exact
exact-more n p l = let z : suc n - length_of p ≡ suc (n - length_of p) = omega arith in rw (z, pow-succ' 36 (n - length_of p)) (omega arith)

-- from the length less one on the loss of a turn is one fraction
pub loss-same : (n : ℕ) (p : Position) (r : TwoDice) (t : List Move) → Ending p → Roll r.0 r.1 → Allowed p r.0 r.1 t → length_of p ≤ suc n → exact_loss (suc n) p r t ≡ 36 * exact_loss n p r t
loss-same n p r t e d a l =
    let h : (q : Position) → Ending q → length_of q < length_of p → exact (suc n) q ≡ 36 * exact n q = λ q f k. exact-more n q (omega arith) in
    omega (arith, best_scaled p r e d (36 ^ suc n) (36 ^ n) (exact (suc n)) (exact n) (pow-succ' 36 n) h, after_scaled p r e d (36 ^ suc n) (36 ^ n) (exact (suc n)) (exact n) (pow-succ' 36 n) h t a)
