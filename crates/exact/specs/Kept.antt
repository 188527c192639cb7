-- The exact kind keeps the rules of a kind.
use Rattle.std.specs.Prelude.{◌≡◌, ℕ, ◌+◌, ◌*◌, ◌/◌, ◌<◌, max, refl}
use Rattle.std.proofs.Common.{sym, ap, ◌∙◌, subst, le_refl, arith, lit≤}
use mathlib.Core.HLevel.{is_prop→PathP}
use Rattle.std.proofs.Props.{props}
use Rattle.std.proofs.Math.Decide.{dec_lt}
use Rattle.std.proofs.Math.Nat.{ℕ_set}
use Rattle.chance.specs.Fraction.{Fraction, Holds, plus, mean}
use Rattle.chance.specs.Rules.{Rules}
use Rattle.chance.specs.Sums.{Fits, fits?}
use Rattle.chance.proofs.Chosen.{chosen_one, not_chosen}
use Rattle.chance.proofs.Ranges.{turned_holds, better_holds, plus-holds, mean-holds}
use Rattle.exact.specs.Sound.{exact_scale, exact_reach, Sound, SumSound}
use Rattle.exact.specs.Stays.{with_sound, mean_sound, thirty_sixth, sound?}
use Rattle.exact.specs.Number.{exactly, total, exact_lost, exact_won, exact_turned, exact_better, exact_empty, exact_with, exact_added, exact_mean, exact_closed, ExactHeld, exact_written, exact_read}
use Rattle.exact.specs.declared.number.Exact.{Exact}
use Rattle.exact.specs.declared.number.ExactSum.{ExactSum}
use Rattle.exact.specs.declared.number.ExactRow.{ExactRow}

Sound-prop : (n a : ℕ) → IsProp (Sound n a)
Sound-prop n a = hlevel (props, ℕ_set)

SumSound-prop : (n w a : ℕ) → IsProp (SumSound n w a)
SumSound-prop n w a = hlevel (props, ℕ_set)

-- two values with the same numbers are the same, and so are two sums
pub same_number : (x y : Exact) → x.number ≡ y.number → x.age ≡ y.age → x ≡ y
same_number x y n a = λ i. record { number = n i; age = a i; ok = is_prop→PathP (λ k. Sound (n k) (a k)) (λ k. Sound-prop _ _) x.ok y.ok i }

pub same_total : (x y : ExactSum) → x.number ≡ y.number → x.weight ≡ y.weight → x.age ≡ y.age → x ≡ y
same_total x y n w a = λ i. record { number = n i; weight = w i; age = a i; ok = is_prop→PathP (λ k. SumSound (n k) (w k) (a k)) (λ k. SumSound-prop _ _ _) x.ok y.ok i }

pub added_is : (s : ExactSum) (w : ℕ) (x : Exact) (h : Fits s.weight w) → exact_added s w x ≡ exact_with s w x h
unfolding exact_added
added_is s w x h = chosen_one (fits? s.weight w) (exact_with s w x) s (hlevel props) h

-- a sum with these numbers is the one with the value added
pub is_added : (s : ExactSum) (w : ℕ) (x : Exact) → Fits s.weight w → (n v a : ℕ) → n ≡ s.number + w * x.number → v ≡ s.weight + w → a ≡ max s.age x.age → (h : SumSound n v a) → total n v a h ≡ exact_added s w x
is_added s w x f n v a d g i = rw (d, g, i) (λ h. ap (total _ _ _) (SumSound-prop _ _ _ h (with_sound s w x f)) ∙ sym (added_is s w x f))

pub added_not : (s : ExactSum) (w : ℕ) (x : Exact) → (Fits s.weight w → ⊥) → exact_added s w x ≡ s
unfolding exact_added
added_not s w x n = not_chosen (fits? s.weight w) (exact_with s w x) s n

pub closed_is : (s : ExactSum) (h : s.age < exact_reach) → exact_closed s ≡ exact_mean s h
unfolding exact_closed
closed_is s h = chosen_one (dec_lt s.age exact_reach) (exact_mean s) exact_lost (hlevel props) h

pub is_closed : (s : ExactSum) → s.age < exact_reach → (h : Sound (s.number / 36) (s.age + 1)) → exactly (s.number / 36) (s.age + 1) h ≡ exact_closed s
is_closed s y h = ap (exactly _ _) (Sound-prop _ _ h (mean_sound s y)) ∙ sym (closed_is s y)

pub row_is : (r : ExactRow) (h : Sound r.number r.age) → exact_read r ≡ exactly r.number r.age h
unfolding exact_read
row_is r h = chosen_one (sound? r.number r.age) (exactly r.number r.age) exact_lost (Sound-prop _ _) h

pub row_not : (r : ExactRow) → (Sound r.number r.age → ⊥) → exact_read r ≡ exact_lost
unfolding exact_read
row_not r n = not_chosen (sound? r.number r.age) (exactly r.number r.age) exact_lost n

mean_held : (s : ExactSum) (t : Fraction) → s.age < exact_reach → ExactHeld s t → Holds exact_scale (exact_closed s).number (exact_closed s).number (mean t)
mean_held s t h held =
    let e = thirty_sixth s h in
    subst (λ x. Holds exact_scale x.number x.number (mean t)) (sym (closed_is s h)) (mean-holds _ _ _ _ _ t (omega arith) (omega arith) held)

pub exact_rules : Rules exact_scale 0 exact_reach (λ (x : Exact). x.number) (λ x. x.number) (λ x. x.age) exact_lost exact_won exact_turned exact_better (λ (s : ExactSum). s.weight) (λ s. s.age) ExactHeld exact_empty exact_added exact_closed exact_written exact_read
exact_rules = record {
  some_scale = lit≤ tt;
  scale_fits = lit≤ tt;
  small_grain = lit≤ tt;
  some_reach = lit≤ tt;
  reach_fits = lit≤ tt;
  ordered = λ x. le_refl _;
  bounded = λ x. x.ok.0;
  narrow = λ x. omega arith;
  young = λ x. x.ok.1;
  lost_holds = record { low = omega arith; high = omega arith };
  lost_age = refl;
  won_holds = record { low = omega arith; high = omega arith };
  won_age = refl;
  turned_holds = λ x q h. turned_holds _ _ _ q x.ok.0 h;
  turned_age = λ x. refl;
  better_holds = λ x y p q h i. better_holds _ _ _ _ _ p q h i;
  better_age = λ x y. refl;
  weight_fits = λ s. s.ok.0;
  oldest_fits = λ s. s.ok.2;
  empty_weight = refl;
  empty_oldest = refl;
  empty_held = record { low = omega arith; high = omega arith };
  added_weight = λ s w x h. ap (λ t. t.weight) (added_is s w x h);
  added_oldest = λ s w x h. ap (λ t. t.age) (added_is s w x h);
  added_held = λ s w x t q h held holds. subst (λ r. ExactHeld r (plus t w q)) (sym (added_is s w x h)) (plus-holds _ _ _ _ _ w t q held holds);
  added_refused = added_not;
  closed_holds = λ s t full young held. mean_held s t young held;
  closed_age = λ s full young. ap (λ x. x.age) (closed_is s young);
  same_row = λ x. row_is _ x.ok;
  other_row = λ r none. row_not r (λ h. none (exactly r.number r.age h) refl);
}
