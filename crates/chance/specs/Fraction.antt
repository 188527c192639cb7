-- Fractions: numerator and denominator, the latter never 0; nothing is divided, cross products do instead.
use Rattle.std.specs.Prelude.{◌≡◌, ℕ, ◌+◌, ◌-◌, ◌*◌, ◌^◌, ◌<◌, ◌≤◌, cond, nat_le}
use Rattle.std.proofs.Common.{arith, mul-pos}
use Rattle.std.proofs.Math.Nat.{one-le-pow}

-- num / den
pub record Fraction : Type 0 where
  pub num : ℕ
  pub den : ℕ
  pub above : 0 < den

-- two ways to write one number
abbrev pub Same : Fraction → Fraction → Type 0
Same p q = p.num * q.den ≡ q.num * p.den

-- 0
abbrev pub nothing : Fraction
nothing = record { num = 0; den = 1; above = omega arith }

-- 1
abbrev pub whole : Fraction
whole = record { num = 1; den = 1; above = omega arith }

-- 1 - q
abbrev pub rest : Fraction → Fraction
rest q = record { num = q.den - q.num; den = q.den; above = q.above }

-- the greater of two
abbrev pub greater : Fraction → Fraction → Fraction
greater p q = cond (nat_le (p.num * q.den) (q.num * p.den)) q p

-- t + w × q
abbrev pub plus : Fraction → ℕ → Fraction → Fraction
plus t w q = record {
  num = t.num * q.den + w * q.num * t.den;
  den = t.den * q.den;
  above = mul-pos t.above q.above;
}

-- t / 36
abbrev pub mean : Fraction → Fraction
mean t = record { num = t.num; den = 36 * t.den; above = mul-pos {m = 36} (omega arith) t.above }

-- a whole number over 36^n
abbrev pub over36 : ℕ → ℕ → Fraction
over36 n a = record { num = a; den = 36 ^ n; above = one-le-pow n 36 (omega arith) }

-- the range from lower to upper over a scale holds q: lower ≤ q × scale ≤ upper
pub record Holds (scale lower upper : ℕ) (q : Fraction) : Type 0 where
  pub low : lower * q.den ≤ q.num * scale
  pub high : q.num * scale ≤ upper * q.den
