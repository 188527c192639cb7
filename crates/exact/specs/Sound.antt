-- What every exact value, and every sum of them, keeps.
use Rattle.std.specs.Prelude.{◌≡◌, ℕ, ◌-◌, ◌*◌, ◌%◌, ◌^◌, ◌≤◌}

-- what stands for 1
abbrev pub exact_scale : ℕ
exact_scale = 36 ^ 11

-- the greatest age
abbrev pub exact_reach : ℕ
exact_reach = 11

-- the step between the numbers of an age
abbrev pub unit_of : ℕ → ℕ
unit_of age = 36 ^ (11 - age)

-- a number within the scale, an age within the reach, and the number a multiple of the age's unit
abbrev pub Sound : ℕ → ℕ → Type 0
Sound number age = (number ≤ exact_scale) × (age ≤ exact_reach) × (number % unit_of age ≡ 0)

-- the same of the weighted sum of numbers, by the weight in all
abbrev pub SumSound : ℕ → ℕ → ℕ → Type 0
SumSound number weight age = (weight ≤ 36) × (number ≤ weight * exact_scale) × (age ≤ exact_reach) × (number % unit_of age ≡ 0)
