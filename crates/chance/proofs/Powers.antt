-- Whole numbers over a power of 36, and what holds them.
use Rattle.std.proofs.Common.{◌≡◌, ℕ, suc, ◌+◌, ◌*◌, ◌^◌, ◌≤◌, max, leb, ap, inl, inr, pow-suc, le_of_mul-le-mul_right, arith, pow-add}
use native.Mathlib.Nat.{one-le-pow}
use Rattle.std.proofs.lemmas.Bool.{cases_Bool, leb-true, leb-false}
use Rattle.chance.specs.Fraction.{Fraction, Same, Holds, nothing, whole, greater, plus, mean, over36}
use Rattle.chance.proofs.Fractions.{same-held}

module _ (s l u : ℕ) where
  -- 0 and 1
  pub nothing_over : (n : ℕ) → Holds s l u nothing → Holds s l u (over36 n 0)
  nothing_over n h = same-held s l u nothing (over36 n 0) (omega arith) h

  pub whole_over : (n : ℕ) → Holds s l u whole → Holds s l u (over36 n (36 ^ n))
  whole_over n h = same-held s l u whole (over36 n (36 ^ n)) (omega arith) h

  -- the same number over a greater power
  pub more_over : (n d a : ℕ) → Holds s l u (over36 n a) → Holds s l u (over36 (d + n) (a * 36 ^ d))
  more_over n d a h = same-held s l u (over36 n a) (over36 (d + n) (a * 36 ^ d)) (rw (pow-add 36 d n) (omega arith)) h

  -- the greater of two is that of the two numbers
  pub greater_over : (n a b : ℕ) → Holds s l u (greater (over36 n a) (over36 n b)) → Holds s l u (over36 n (max a b))
  greater_over n a b h = elim (cases_Bool (leb (a * 36 ^ n) (b * 36 ^ n))) [
    | inl e ↦
        (let j : a ≤ b = le_of_mul-le-mul_right {k = 36 ^ n} (leb-true _ _ e) (one-le-pow n 36 (omega arith)) in
        let z : max a b ≡ b = omega arith in
        rw z (rw e at h))
    | inr e ↦
        (let j : b ≤ a = le_of_mul-le-mul_right {k = 36 ^ n} (omega (arith, leb-false (a * 36 ^ n) (b * 36 ^ n) e)) (one-le-pow n 36 (omega arith)) in
        let z : max a b ≡ a = omega arith in
        rw z (rw e at h))
  ]

  -- a 36th of a total that is t over 36^n
  pub mean_over : (n t : ℕ) (q : Fraction) → Same q (over36 n t) → Holds s l u (mean q) → Holds s l u (over36 (suc n) t)
  mean_over n t q e h = same-held s l u (mean q) (over36 (suc n) t) (rw (pow-suc 36 n) (omega (arith, e))) h

-- one number more by its weight
pub plus_over : (n t w a : ℕ) (q : Fraction) → Same q (over36 n t) → Same (plus q w (over36 n a)) (over36 n (t + w * a))
plus_over n t w a q e =
    let d : ℕ = 36 ^ n in
    let f : q.num * d * d ≡ t * q.den * d = ap (λ v. v * d) e in
    omega (arith, f)
