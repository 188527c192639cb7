-- What every fixed range, and every sum of them, keeps.
use Rattle.std.specs.Prelude.{ℕ, ◌+◌, ◌*◌, ◌≤◌}

-- what stands for 1
abbrev pub fixed_scale : ℕ
fixed_scale = 1_000_000_000

-- the greatest age
abbrev pub fixed_reach : ℕ
fixed_reach = 60

-- ends in order, within the scale, at most the age apart, which is within the reach
abbrev pub Sound : ℕ → ℕ → ℕ → Type 0
Sound lower upper age = (lower ≤ upper) × (upper ≤ fixed_scale) × (upper ≤ lower + age) × (age ≤ fixed_reach)

-- the same of the weighted sums of both ends, by the weight in all
abbrev pub SumSound : ℕ → ℕ → ℕ → ℕ → Type 0
SumSound lower upper weight age =
    (weight ≤ 36) × (lower ≤ upper) × (upper ≤ weight * fixed_scale) × (upper ≤ lower + weight * age) × (age ≤ fixed_reach)
