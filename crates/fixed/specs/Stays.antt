-- Each answer of the fixed range keeps the rule of Sound.
use Rattle.std.specs.Prelude.{ℕ, ◌+◌, ◌-◌, ◌*◌, ◌/◌, ◌<◌, ◌≤◌, max}
use Rattle.std.proofs.Math.Decide.{dec_le}
use Rattle.std.proofs.Common.{arith, mul-le-mul_left, mul-le-mul_right, mul-add, add-mul}
use Rattle.chance.specs.Sums.{Fits}
use Rattle.fixed.specs.Sound.{fixed_scale, fixed_reach, Sound, SumSound}
use Rattle.fixed.specs.declared.range.Fixed.{Fixed}
use Rattle.fixed.specs.declared.range.FixedSum.{FixedSum}

pub lost_sound : Sound 0 0 0
lost_sound = (omega arith, omega arith, omega arith, omega arith)

pub won_sound : Sound fixed_scale fixed_scale 0
won_sound = (omega arith, omega arith, omega arith, omega arith)

pub turned_sound : (x : Fixed) → Sound (fixed_scale - x.upper) (fixed_scale - x.lower) x.age
turned_sound x = (omega arith, omega arith, omega arith, omega arith)

pub better_sound : (x y : Fixed) → Sound (max x.lower y.lower) (max x.upper y.upper) (max x.age y.age)
better_sound x y = (omega arith, omega arith, omega arith, omega arith)

pub empty_sound : SumSound 0 0 0 0
empty_sound = (omega arith, omega arith, omega arith, omega arith, omega arith)

pub with_sound : (s : FixedSum) (w : ℕ) (x : Fixed) → Fits s.weight w → SumSound (s.lower + w * x.lower) (s.upper + w * x.upper) (s.weight + w) (max s.age x.age)
with_sound s w x h =
    let a : ℕ = max s.age x.age in
    let low = mul-le-mul_left w x.ok.0 in
    let high = mul-le-mul_left w x.ok.1 in
    let wide = mul-le-mul_left w x.ok.2 in
    let newer : x.age ≤ a = omega arith in
    let older : s.age ≤ a = omega arith in
    let mine = mul-le-mul_left w newer in
    let theirs = mul-le-mul_left s.weight older in (
      h.room,
      omega arith,
      omega (arith, add-mul s.weight w fixed_scale),
      omega (arith, mul-add w x.lower x.age, add-mul s.weight w a),
      omega arith,
    )

pub mean_sound : (s : FixedSum) → s.age < fixed_reach → Sound (s.lower / 36) ((s.upper + 35) / 36) (s.age + 1)
mean_sound s h =
    let wide = mul-le-mul_right s.age s.ok.0 in
    (omega arith, omega arith, omega arith, omega arith)

-- whether numbers keep the rule
unfoldable pub sound? : (l u a : ℕ) → Dec (Sound l u a)
sound? l u a = elim (dec_le l u) [
  | yes h ↦ elim (dec_le u fixed_scale) [
    | yes i ↦ elim (dec_le u (l + a)) [
      | yes j ↦ elim (dec_le a fixed_reach) [ yes k ↦ yes (h, i, j, k) | no n ↦ no (λ s. n s.3) ]
      | no n ↦ no (λ s. n s.2)
    ]
    | no n ↦ no (λ s. n s.1)
  ]
  | no n ↦ no (λ s. n s.0)
]
