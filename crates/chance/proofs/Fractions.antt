-- Fractions that are the same number are held alike.
use Rattle.std.proofs.Common.{◌≡◌, ℕ, ◌*◌, ◌<◌, ◌≤◌, ap, mul-le-mul_left, arith}
use native.Mathlib.Nat.{le_of_mul-le-mul_left}
use Rattle.chance.specs.Fraction.{Fraction, Same, Holds}

low : (l d e a b s : ℕ) → 0 < d → l * d ≤ a * s → a * e ≡ b * d → l * e ≤ b * s
low l d e a b s p h z =
    let u = mul-le-mul_left e h in
    let v : a * e * s ≡ b * d * s = ap (λ w. w * s) z in
    le_of_mul-le-mul_left {k = d} (omega arith) p

high : (u d e a b s : ℕ) → 0 < d → a * s ≤ u * d → a * e ≡ b * d → b * s ≤ u * e
high u d e a b s p h z =
    let w = mul-le-mul_left e h in
    let v : a * e * s ≡ b * d * s = ap (λ w. w * s) z in
    le_of_mul-le-mul_left {k = d} (omega arith) p

pub same-held : (s l u : ℕ) (p q : Fraction) → Same p q → Holds s l u p → Holds s l u q
same-held s l u p q e h = record {
  low = low l p.den q.den p.num q.num s p.above h.low e;
  high = high u p.den q.den p.num q.num s p.above h.high e;
}
