-- What ranges hold, over any scale: what the kinds rest on.
use Rattle.std.proofs.Common.{ℕ, ◌+◌, ◌-◌, ◌*◌, ◌≤◌, max, leb, mul-le-mul_right, mul-le-mul_left, le_of_mul-le-mul_right, arith, leb-false, leb-true}
use Rattle.std.proofs.lemmas.Bool.{cond_both}
use native.Mathlib.Nat.{le-max_left, le-max_right, mul-sub}
use Rattle.chance.specs.Fraction.{Fraction, Holds, rest, greater, plus, mean}

-- a range that reaches no less far holds what the other holds
pub wider : (s l u k v : ℕ) (q : Fraction) → k ≤ l → u ≤ v → Holds s l u q → Holds s k v q
wider s l u k v q low high h = record {
  low = omega (arith, mul-le-mul_right q.den low);
  high = omega (arith, mul-le-mul_right q.den high);
}

pub turned_holds : (s l u : ℕ) (q : Fraction) → u ≤ s → Holds s l u q → Holds s (s - u) (s - l) (rest q)
turned_holds s l u q b h =
    let d : ℕ = q.den in
    let n : ℕ = q.num in
    let up = mul-le-mul_right d b in
    record {
      low = omega (arith, mul-sub d s u, mul-sub s d n);
      high = omega (arith, mul-sub d s l, mul-sub s d n);
    }

-- a bound from below of a fraction bounds each that is no less
low_up : (s l : ℕ) (p q : Fraction) → p.num * q.den ≤ q.num * p.den → l * p.den ≤ p.num * s → l * q.den ≤ q.num * s
low_up s l p q le h =
    le_of_mul-le-mul_right {k = p.den} (omega (arith, mul-le-mul_right q.den h, mul-le-mul_right s le)) p.above

max-low : (s l k : ℕ) (q : Fraction) → l * q.den ≤ q.num * s → k * q.den ≤ q.num * s → max l k * q.den ≤ q.num * s
max-low s l k q h i = grind arith

pub better_holds : (s l u k v : ℕ) (p q : Fraction) → Holds s l u p → Holds s k v q → Holds s (max l k) (max u v) (greater p q)
better_holds s l u k v p q h i =
    cond_both
    (leb (p.num * q.den) (q.num * p.den))
    q
    p
    (λ r. Holds s (max l k) (max u v) r)
    (λ e.
    let le = leb-true _ _ e in
    record {
      low = max-low s l k q (low_up s l p q le h.low) i.low;
      high = omega (arith, mul-le-mul_right q.den (le-max_right u v));
    })
    (λ e.
    let lt = leb-false _ _ e in
    record {
      low = max-low s l k p h.low (low_up s k q p (omega arith) i.low);
      high = omega (arith, mul-le-mul_right p.den (le-max_left u v));
    })

pub plus-holds : (s l u k v w : ℕ) (t q : Fraction) → Holds s l u t → Holds s k v q → Holds s (l + w * k) (u + w * v) (plus t w q)
plus-holds s l u k v w t q h i =
    let e : ℕ = w * t.den in
    record {
      low = omega (arith, mul-le-mul_right q.den h.low, mul-le-mul_left e i.low);
      high = omega (arith, mul-le-mul_right q.den h.high, mul-le-mul_left e i.high);
    }

-- the mean, between any m and n with 36 m at most the lower end and 36 n at least the upper
pub mean-holds : (s l u m n : ℕ) (t : Fraction) → m * 36 ≤ l → u ≤ n * 36 → Holds s l u t → Holds s m n (mean t)
mean-holds s l u m n t low high h = record {
  low = omega (arith, mul-le-mul_right t.den low);
  high = omega (arith, mul-le-mul_right t.den high);
}
