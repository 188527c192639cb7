-- Each answer of the exact kind keeps the rule of Sound.
use Rattle.std.specs.Prelude.{◌≡◌, ℕ, suc, ◌+◌, ◌-◌, ◌*◌, ◌/◌, ◌%◌, ◌^◌, ◌<◌, ◌≤◌, max}
use Rattle.std.specs.Int.{◌∣◌}
use Rattle.std.proofs.Math.Decide.{dec_le, ℕ_discrete}
use Rattle.std.proofs.Common.{arith, mul-le-mul_left, pow-add}
use Rattle.std.proofs.Math.Nat.{dvd-mul_right, dvd-mul_left_of_dvd, dvd_trans, dvd-add, dvd-sub, dvd_of_mod-eq-zero, mod-eq-zero_of_dvd, dvd_of_mul-dvd-mul_left, mul-div_cancel', pow-succ', max-eq_left, max-eq_right, pow-le-pow_right}
use Rattle.chance.specs.Sums.{Fits}
use Rattle.exact.specs.Sound.{exact_scale, exact_reach, unit_of, Sound, SumSound}
use Rattle.exact.specs.declared.number.Exact.{Exact}
use Rattle.exact.specs.declared.number.ExactSum.{ExactSum}

-- a unit is at most the scale
pub unit_fits : (a : ℕ) → unit_of a ≤ exact_scale
unit_fits a = let few : 11 - a ≤ 11 = omega arith in pow-le-pow_right (omega arith) few

-- the unit of a greater age divides that of a smaller
unit_divides : (a b : ℕ) → a ≤ b → b ≤ 11 → unit_of b ∣ unit_of a
unit_divides a b h i =
    let e : 11 - a ≡ 11 - b + (b - a) = omega arith in
    rw (e, pow-add 36 (11 - b) (b - a)) (dvd-mul_right (36 ^ (11 - b)) (36 ^ (b - a)))

-- a multiple of the unit of an age is one of each greater age's unit
older : (n a b : ℕ) → a ≤ b → b ≤ 11 → n % unit_of a ≡ 0 → unit_of b ∣ n
older n a b h i e = dvd_trans (unit_of b) (unit_divides a b h i) (dvd_of_mod-eq-zero (unit_of a) e)

multiple : {n : ℕ} (a : ℕ) → unit_of a ∣ n → n % unit_of a ≡ 0
multiple a h = mod-eq-zero_of_dvd (unit_of a) h

pub lost_sound : Sound 0 0
lost_sound = (omega arith, omega arith, omega arith)

pub won_sound : Sound exact_scale 0
won_sound = (omega arith, omega arith, omega arith)

pub turned_sound : (x : Exact) → Sound (exact_scale - x.number) x.age
turned_sound x = (
  omega arith,
  x.ok.1,
  multiple x.age (dvd-sub (unit_of x.age) (unit_divides 0 x.age (omega arith) x.ok.1) (dvd_of_mod-eq-zero (unit_of x.age) x.ok.2)),
)

max_divides : (d m n : ℕ) → d ∣ m → d ∣ n → d ∣ max m n
max_divides d m n h i = elim (dec_le m n) [ yes le ↦ rw max-eq_right i | no gt ↦ let ge : n ≤ m = omega arith in rw max-eq_left h ]

pub better_sound : (x y : Exact) → Sound (max x.number y.number) (max x.age y.age)
better_sound x y =
    let a : ℕ = max x.age y.age in
    let i : a ≤ 11 = omega arith in
    let mine = older x.number x.age a (omega arith) i x.ok.2 in
    let theirs = older y.number y.age a (omega arith) i y.ok.2 in
    (omega arith, i, multiple a (max_divides _ x.number y.number mine theirs))

pub empty_sound : SumSound 0 0 0
empty_sound = (omega arith, omega arith, omega arith, omega arith)

pub with_sound : (s : ExactSum) (w : ℕ) (x : Exact) → Fits s.weight w → SumSound (s.number + w * x.number) (s.weight + w) (max s.age x.age)
with_sound s w x h =
    let a : ℕ = max s.age x.age in
    let i : a ≤ 11 = omega arith in
    let before = older s.number s.age a (omega arith) i s.ok.3 in
    let more = older x.number x.age a (omega arith) i x.ok.2 in
    let most = mul-le-mul_left w x.ok.0 in
    (h.room, omega arith, i, multiple a (dvd-add _ before (dvd-mul_left_of_dvd _ more w)))

-- below the reach a sum is a multiple of 36
pub thirty_sixth : (s : ExactSum) → s.age < exact_reach → 36 * (s.number / 36) ≡ s.number
thirty_sixth s h = mul-div_cancel' 36 (older s.number s.age 10 (omega arith) (omega arith) s.ok.3)

pub mean_sound : (s : ExactSum) → s.age < exact_reach → Sound (s.number / 36) (s.age + 1)
mean_sound s h =
    let u : ℕ = unit_of (s.age + 1) in
    let e : 11 - s.age ≡ suc (11 - (s.age + 1)) = omega arith in
    let all : 36 * u ∣ s.number = rw (e, pow-succ' 36 (11 - (s.age + 1))) at (dvd_of_mod-eq-zero (unit_of s.age) s.ok.3) in
    let part : 36 * u ∣ 36 * (s.number / 36) = rw (thirty_sixth s h) all in
    (omega (arith, thirty_sixth s h), omega arith, multiple (s.age + 1) (dvd_of_mul-dvd-mul_left u (omega arith) part))

-- whether numbers keep the rule
unfoldable pub sound? : (n a : ℕ) → Dec (Sound n a)
sound? n a = elim (dec_le n exact_scale) [
  | yes h ↦ elim (dec_le a exact_reach) [
    | yes i ↦ elim (ℕ_discrete (n % unit_of a) 0) [ yes j ↦ yes (h, i, j) | no f ↦ no (λ s. f s.2) ]
    | no f ↦ no (λ s. f s.1)
  ]
  | no f ↦ no (λ s. f s.0)
]
