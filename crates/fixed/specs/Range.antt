-- What each call of the fixed range answers.
use Rattle.std.specs.Prelude.{ℕ, ◌+◌, ◌-◌, ◌*◌, ◌/◌, ◌<◌, max}
use Rattle.std.proofs.Math.Decide.{dec_lt}
use Rattle.chance.specs.Choose.{choose}
use Rattle.chance.specs.Fraction.{Fraction, Holds}
use Rattle.chance.specs.Sums.{Fits, fits?}
use Rattle.fixed.specs.Sound.{fixed_scale, fixed_reach, Sound, SumSound}
use Rattle.fixed.specs.Stays.{lost_sound, won_sound, turned_sound, better_sound, empty_sound, with_sound, mean_sound, sound?}
use Rattle.fixed.specs.declared.range.Fixed.{Fixed}
use Rattle.fixed.specs.declared.range.FixedSum.{FixedSum}
use Rattle.fixed.specs.declared.range.FixedRow.{FixedRow}

-- the range with these ends and this age
abbrev pub range : (l u a : ℕ) → Sound l u a → Fixed
range l u a h = record { lower = l; upper = u; age = a; ok = h }

-- the sum with these totals of both ends, this weight and this age
abbrev pub total : (l u w a : ℕ) → SumSound l u w a → FixedSum
total l u w a h = record { lower = l; upper = u; weight = w; age = a; ok = h }

-- from 0 to 0, of age 0
abbrev pub fixed_lost : Fixed
fixed_lost = range 0 0 0 lost_sound

-- from the scale to the scale, of age 0
abbrev pub fixed_won : Fixed
fixed_won = range fixed_scale fixed_scale 0 won_sound

-- from scale - upper to scale - lower, of the same age
abbrev pub fixed_turned : Fixed → Fixed
fixed_turned x = range (fixed_scale - x.upper) (fixed_scale - x.lower) x.age (turned_sound x)

-- the greater of each
abbrev pub fixed_better : Fixed → Fixed → Fixed
fixed_better x y = range (max x.lower y.lower) (max x.upper y.upper) (max x.age y.age) (better_sound x y)

-- nothing added yet
abbrev pub fixed_empty : FixedSum
fixed_empty = total 0 0 0 0 empty_sound

-- both ends by the weight, and the greater age
abbrev pub fixed_with : (s : FixedSum) (w : ℕ) (x : Fixed) → Fits s.weight w → FixedSum
fixed_with s w x h = total (s.lower + w * x.lower) (s.upper + w * x.upper) (s.weight + w) (max s.age x.age) (with_sound s w x h)

-- as it was, where the weight does not fit
unfoldable pub fixed_added : FixedSum → ℕ → Fixed → FixedSum
fixed_added s w x = choose (fits? s.weight w) (fixed_with s w x) s

-- the lower mean rounded down, the upper rounded up
abbrev pub fixed_mean : (s : FixedSum) → s.age < fixed_reach → Fixed
fixed_mean s h = range (s.lower / 36) ((s.upper + 35) / 36) (s.age + 1) (mean_sound s h)

-- lost, where the sum is too old to be closed
unfoldable pub fixed_closed : FixedSum → Fixed
fixed_closed s = choose (dec_lt s.age fixed_reach) (fixed_mean s) fixed_lost

-- a sum holds the totals between its two
abbrev pub FixedHeld : FixedSum → Fraction → Type 0
FixedHeld s t = Holds fixed_scale s.lower s.upper t

-- both ends and the age
abbrev pub fixed_written : Fixed → FixedRow
fixed_written x = record { lower = x.lower; upper = x.upper; age = x.age }

-- lost, where no value writes the row
unfoldable pub fixed_read : FixedRow → Fixed
fixed_read r = choose (sound? r.lower r.upper r.age) (range r.lower r.upper r.age) fixed_lost
