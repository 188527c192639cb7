-- What every kind of chance number keeps, a field for each rule.
use Rattle.std.specs.Prelude.{◌≡◌, ℕ, ◌+◌, ◌-◌, ◌*◌, ◌^◌, ◌<◌, ◌≤◌, max, ◌≢◌}
use Rattle.chance.specs.Fraction.{Fraction, Holds, nothing, whole, rest, greater, plus, mean}
use Rattle.chance.specs.Sums.{Fits}

-- V are the kind's values, S its sums, R its rows
pub record Rules {V S R : Type 0}
    (scale grain reach : ℕ)
    (lower upper age : V → ℕ)
    (lost won : V)
    (turned : V → V)
    (better : V → V → V)
    (weight oldest : S → ℕ)
    (held : S → Fraction → Type 0)
    (empty : S)
    (added : S → ℕ → V → S)
    (closed : S → V)
    (written : V → R)
    (read : R → V) : Type 0 where
  -- the scale is from 1 to 36^11, the grain 0 or 1, the reach from 1 to 60
  pub some_scale : 1 ≤ scale
  pub scale_fits : scale ≤ 36 ^ 11
  pub small_grain : grain ≤ 1
  pub some_reach : 1 ≤ reach
  pub reach_fits : reach ≤ 60
  -- every value: its ends are in order and within the scale, at most grain × age apart, and its age is within the reach
  pub ordered : (x : V) → lower x ≤ upper x
  pub bounded : (x : V) → upper x ≤ scale
  pub narrow : (x : V) → upper x - lower x ≤ grain * age x
  pub young : (x : V) → age x ≤ reach
  -- 0 is what lost holds and 1 what won holds, and their age is 0
  pub lost_holds : Holds scale (lower lost) (upper lost) nothing
  pub lost_age : age lost ≡ 0
  pub won_holds : Holds scale (lower won) (upper won) whole
  pub won_age : age won ≡ 0
  -- whatever q a value holds, turned it holds 1 - q, at the same age
  pub turned_holds : (x : V) (q : Fraction) → Holds scale (lower x) (upper x) q → Holds scale (lower (turned x)) (upper (turned x)) (rest q)
  pub turned_age : (x : V) → age (turned x) ≡ age x
  -- take a fraction from each of two values: their better holds the larger, and is as old as the older
  pub better_holds : (x y : V) (p q : Fraction) → Holds scale (lower x) (upper x) p → Holds scale (lower y) (upper y) q → Holds scale (lower (better x y)) (upper (better x y)) (greater p q)
  pub better_age : (x y : V) → age (better x y) ≡ max (age x) (age y)
  -- every sum: its weight is at most 36, and its greatest age within the reach
  pub weight_fits : (s : S) → weight s ≤ 36
  pub oldest_fits : (s : S) → oldest s ≤ reach
  -- a sum starts with weight 0, age 0 and the total 0
  pub empty_weight : weight empty ≡ 0
  pub empty_oldest : oldest empty ≡ 0
  pub empty_held : held empty nothing
  -- a weight that fits makes the sum so much heavier, and as old as the older of sum and value; where the one held t and the other q, it holds t + weight × q
  pub added_weight : (s : S) (w : ℕ) (x : V) → Fits (weight s) w → weight (added s w x) ≡ weight s + w
  pub added_oldest : (s : S) (w : ℕ) (x : V) → Fits (weight s) w → oldest (added s w x) ≡ max (oldest s) (age x)
  pub added_held : (s : S) (w : ℕ) (x : V) (t q : Fraction) → Fits (weight s) w → held s t → Holds scale (lower x) (upper x) q → held (added s w x) (plus t w q)
  -- adding any other weight changes nothing
  pub added_refused : (s : S) (w : ℕ) (x : V) → (Fits (weight s) w → ⊥) → added s w x ≡ s
  -- a full sum younger than the reach closes: where it held t the value holds t / 36, and it is one older than the sum
  pub closed_holds : (s : S) (t : Fraction) → weight s ≡ 36 → oldest s < reach → held s t → Holds scale (lower (closed s)) (upper (closed s)) (mean t)
  pub closed_age : (s : S) → weight s ≡ 36 → oldest s < reach → age (closed s) ≡ oldest s + 1
  -- a row is read as the value that wrote it, and as lost where no value writes it
  pub same_row : (x : V) → read (written x) ≡ x
  pub other_row : (r : R) → ((x : V) → written x ≢ r) → read r ≡ lost
