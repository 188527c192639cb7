-- The fixed range keeps the rules of a kind.
use Rattle.std.specs.Prelude.{◌≡◌, ℕ, ◌+◌, ◌*◌, ◌/◌, ◌<◌, ◌≤◌, max, refl}
use Rattle.std.proofs.Common.{sym, ap, ◌∙◌, subst, arith, lit≤}
use mathlib.Core.HLevel.{is_prop→PathP}
use Rattle.std.proofs.Props.{props}
use Rattle.std.proofs.Math.Decide.{dec_lt}
use Rattle.chance.specs.Fraction.{Fraction, Holds, plus, mean}
use Rattle.chance.specs.Rules.{Rules}
use Rattle.chance.specs.Sums.{Fits, fits?}
use Rattle.chance.proofs.Chosen.{chosen_one, not_chosen}
use Rattle.chance.proofs.Ranges.{turned_holds, better_holds, plus-holds, mean-holds}
use Rattle.fixed.specs.Sound.{fixed_scale, fixed_reach, Sound, SumSound}
use Rattle.fixed.specs.Stays.{with_sound, mean_sound, sound?}
use Rattle.fixed.specs.Range.{range, total, fixed_lost, fixed_won, fixed_turned, fixed_better, fixed_empty, fixed_with, fixed_added, fixed_mean, fixed_closed, FixedHeld, fixed_written, fixed_read}
use Rattle.fixed.specs.declared.range.Fixed.{Fixed}
use Rattle.fixed.specs.declared.range.FixedSum.{FixedSum}
use Rattle.fixed.specs.declared.range.FixedRow.{FixedRow}

Sound-prop : (l u a : ℕ) → IsProp (Sound l u a)
Sound-prop l u a = hlevel props

SumSound-prop : (l u w a : ℕ) → IsProp (SumSound l u w a)
SumSound-prop l u w a = hlevel props

-- two values with the same numbers are the same, and so are two sums
pub same_range : (x y : Fixed) → x.lower ≡ y.lower → x.upper ≡ y.upper → x.age ≡ y.age → x ≡ y
same_range x y l u a = λ i. record { lower = l i; upper = u i; age = a i; ok = is_prop→PathP (λ k. Sound (l k) (u k) (a k)) (λ k. Sound-prop _ _ _) x.ok y.ok i }

pub same_total : (x y : FixedSum) → x.lower ≡ y.lower → x.upper ≡ y.upper → x.weight ≡ y.weight → x.age ≡ y.age → x ≡ y
same_total x y l u w a = λ i. record { lower = l i; upper = u i; weight = w i; age = a i; ok = is_prop→PathP (λ k. SumSound (l k) (u k) (w k) (a k)) (λ k. SumSound-prop _ _ _ _) x.ok y.ok i }

pub added_is : (s : FixedSum) (w : ℕ) (x : Fixed) (h : Fits s.weight w) → fixed_added s w x ≡ fixed_with s w x h
unfolding fixed_added
added_is s w x h = chosen_one (fits? s.weight w) (fixed_with s w x) s (hlevel props) h

-- a sum with these numbers is the one with the value added
pub is_added : (s : FixedSum) (w : ℕ) (x : Fixed) → Fits s.weight w → (l u v a : ℕ) → l ≡ s.lower + w * x.lower → u ≡ s.upper + w * x.upper → v ≡ s.weight + w → a ≡ max s.age x.age → (h : SumSound l u v a) → total l u v a h ≡ fixed_added s w x
is_added s w x f l u v a d e g i = rw (d, e, g, i) (λ h. ap (total _ _ _ _) (SumSound-prop _ _ _ _ h (with_sound s w x f)) ∙ sym (added_is s w x f))

pub added_not : (s : FixedSum) (w : ℕ) (x : Fixed) → (Fits s.weight w → ⊥) → fixed_added s w x ≡ s
unfolding fixed_added
added_not s w x n = not_chosen (fits? s.weight w) (fixed_with s w x) s n

pub closed_is : (s : FixedSum) (h : s.age < fixed_reach) → fixed_closed s ≡ fixed_mean s h
unfolding fixed_closed
closed_is s h = chosen_one (dec_lt s.age fixed_reach) (fixed_mean s) fixed_lost (hlevel props) h

pub is_closed : (s : FixedSum) → s.age < fixed_reach → (l u a : ℕ) → l ≡ s.lower / 36 → u ≡ (s.upper + 35) / 36 → a ≡ s.age + 1 → (h : Sound l u a) → range l u a h ≡ fixed_closed s
is_closed s y l u a d e g = rw (d, e, g) (λ h. ap (range _ _ _) (Sound-prop _ _ _ h (mean_sound s y)) ∙ sym (closed_is s y))

pub row_is : (r : FixedRow) (h : Sound r.lower r.upper r.age) → fixed_read r ≡ range r.lower r.upper r.age h
unfolding fixed_read
row_is r h = chosen_one (sound? r.lower r.upper r.age) (range r.lower r.upper r.age) fixed_lost (Sound-prop _ _ _) h

pub row_not : (r : FixedRow) → (Sound r.lower r.upper r.age → ⊥) → fixed_read r ≡ fixed_lost
unfolding fixed_read
row_not r n = not_chosen (sound? r.lower r.upper r.age) (range r.lower r.upper r.age) fixed_lost n

mean_held : (s : FixedSum) (t : Fraction) → s.age < fixed_reach → FixedHeld s t → Holds fixed_scale (fixed_closed s).lower (fixed_closed s).upper (mean t)
mean_held s t h held =
    let down : s.lower / 36 * 36 ≤ s.lower = omega arith in
    let up : s.upper ≤ (s.upper + 35) / 36 * 36 = omega arith in
    subst (λ x. Holds fixed_scale x.lower x.upper (mean t)) (sym (closed_is s h)) (mean-holds _ _ _ _ _ t down up held)

pub fixed_rules : Rules fixed_scale 1 fixed_reach (λ (x : Fixed). x.lower) (λ x. x.upper) (λ x. x.age) fixed_lost fixed_won fixed_turned fixed_better (λ (s : FixedSum). s.weight) (λ s. s.age) FixedHeld fixed_empty fixed_added fixed_closed fixed_written fixed_read
fixed_rules = record {
  some_scale = lit≤ tt;
  scale_fits = lit≤ tt;
  small_grain = lit≤ tt;
  some_reach = lit≤ tt;
  reach_fits = lit≤ tt;
  ordered = λ x. x.ok.0;
  bounded = λ x. x.ok.1;
  narrow = λ x. omega arith;
  young = λ x. x.ok.3;
  lost_holds = record { low = omega arith; high = omega arith };
  lost_age = refl;
  won_holds = record { low = omega arith; high = omega arith };
  won_age = refl;
  turned_holds = λ x q h. turned_holds _ _ _ q x.ok.1 h;
  turned_age = λ x. refl;
  better_holds = λ x y p q h i. better_holds _ _ _ _ _ p q h i;
  better_age = λ x y. refl;
  weight_fits = λ s. s.ok.0;
  oldest_fits = λ s. s.ok.4;
  empty_weight = refl;
  empty_oldest = refl;
  empty_held = record { low = omega arith; high = omega arith };
  added_weight = λ s w x h. ap (λ t. t.weight) (added_is s w x h);
  added_oldest = λ s w x h. ap (λ t. t.age) (added_is s w x h);
  added_held = λ s w x t q h held holds. subst (λ r. FixedHeld r (plus t w q)) (sym (added_is s w x h)) (plus-holds _ _ _ _ _ w t q held holds);
  added_refused = added_not;
  closed_holds = λ s t full young held. mean_held s t young held;
  closed_age = λ s full young. ap (λ x. x.age) (closed_is s young);
  same_row = λ x. row_is _ x.ok;
  other_row = λ r none. row_not r (λ h. none (range r.lower r.upper r.age h) refl);
}
