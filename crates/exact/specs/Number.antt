-- What each call of the exact kind answers.
use Rattle.std.specs.Prelude.{ℕ, ◌+◌, ◌-◌, ◌*◌, ◌/◌, ◌<◌, max}
use Rattle.std.proofs.Math.Decide.{dec_lt}
use Rattle.chance.specs.Choose.{choose}
use Rattle.chance.specs.Fraction.{Fraction, Holds}
use Rattle.chance.specs.Sums.{Fits, fits?}
use Rattle.exact.specs.Sound.{exact_scale, exact_reach, Sound, SumSound}
use Rattle.exact.specs.Stays.{lost_sound, won_sound, turned_sound, better_sound, empty_sound, with_sound, mean_sound, sound?}
use Rattle.exact.specs.declared.number.Exact.{Exact}
use Rattle.exact.specs.declared.number.ExactSum.{ExactSum}
use Rattle.exact.specs.declared.number.ExactRow.{ExactRow}

-- the value with this number and this age
abbrev pub exactly : (n a : ℕ) → Sound n a → Exact
exactly n a h = record { number = n; age = a; ok = h }

-- the sum with this total, this weight and this age
abbrev pub total : (n w a : ℕ) → SumSound n w a → ExactSum
total n w a h = record { number = n; weight = w; age = a; ok = h }

-- 0, of age 0
abbrev pub exact_lost : Exact
exact_lost = exactly 0 0 lost_sound

-- the scale, of age 0
abbrev pub exact_won : Exact
exact_won = exactly exact_scale 0 won_sound

-- scale - number, of the same age
abbrev pub exact_turned : Exact → Exact
exact_turned x = exactly (exact_scale - x.number) x.age (turned_sound x)

-- the greater of each
abbrev pub exact_better : Exact → Exact → Exact
exact_better x y = exactly (max x.number y.number) (max x.age y.age) (better_sound x y)

-- nothing added yet
abbrev pub exact_empty : ExactSum
exact_empty = total 0 0 0 empty_sound

-- the number by the weight, and the greater age
abbrev pub exact_with : (s : ExactSum) (w : ℕ) (x : Exact) → Fits s.weight w → ExactSum
exact_with s w x h = total (s.number + w * x.number) (s.weight + w) (max s.age x.age) (with_sound s w x h)

-- as it was, where the weight does not fit
unfoldable pub exact_added : ExactSum → ℕ → Exact → ExactSum
exact_added s w x = choose (fits? s.weight w) (exact_with s w x) s

-- the mean, which is a whole number
abbrev pub exact_mean : (s : ExactSum) → s.age < exact_reach → Exact
exact_mean s h = exactly (s.number / 36) (s.age + 1) (mean_sound s h)

-- lost, where the sum is too old to be closed
unfoldable pub exact_closed : ExactSum → Exact
exact_closed s = choose (dec_lt s.age exact_reach) (exact_mean s) exact_lost

-- a sum holds the one total that it is
abbrev pub ExactHeld : ExactSum → Fraction → Type 0
ExactHeld s t = Holds exact_scale s.number s.number t

-- the number and the age
abbrev pub exact_written : Exact → ExactRow
exact_written x = record { number = x.number; age = x.age }

-- lost, where no value writes the row
unfoldable pub exact_read : ExactRow → Exact
exact_read r = choose (sound? r.number r.age) (exactly r.number r.age) exact_lost
