-- What exact chances are.
use Rattle.std.proofs.Common.{ℕ, zero, suc, ◌^◌, ◌≤◌, List, inl, inr, pow-suc, arith}
use Rattle.std.proofs.lemmas.Bool.{cases_Bool}
use Rattle.board.specs.Position.{Position}
use Rattle.turns.specs.Runs.{Move, played}
use Rattle.turns.specs.Roll.{Roll}
use Rattle.listing.specs.Order.{off, listed}
use Rattle.listing.specs.Laws.{Sound}
use Rattle.listing.proofs.Listed.{listed_is}
use Rattle.listing.proofs.Some.{some_allowed}
use Rattle.endings.specs.Rolls.{TwoDice, rolls, weight}
use Rattle.endings.specs.Chance.{after, best, chance, Best}
use Rattle.endings.proofs.Lists.{mapped_bound, greatest-reached, greatest_le, sum_weighted}
use Rattle.endings.proofs.Rolls.{weights}

pub after_le : (w : ℕ) (f : Position → ℕ) (p : Position) (t : List Move) → after w f p t ≤ w
after_le w f p t = elim (cases_Bool (off (played p t))) [ inl e ↦ rw e (omega arith) | inr e ↦ rw e (omega arith) ]

pub best_le : (w : ℕ) (f : Position → ℕ) (p : Position) (r : TwoDice) → best w f p r ≤ w
best_le w f p r = greatest_le (after w f p) w (listed p r.0 r.1) (λ t _. after_le w f p t)

pub chance_le : (n : ℕ) (p : Position) → chance n p ≤ 36 ^ n
unfolding chance
chance_le zero p = omega arith
chance_le (suc n) p =
    let h = sum_weighted weight (best (36 ^ n) (chance n) p) (36 ^ n) rolls (λ r _. best_le (36 ^ n) (chance n) p r) in
    omega (arith, rw weights at h, pow-suc 36 n)

-- the best of a roll is the greatest after an allowed turn
pub best_is : (w : ℕ) (f : Position → ℕ) (p : Position) (x y : ℕ) → Sound p → Roll x y → Best w f p (x, y) (best w f p (x, y))
best_is w f p x y o d =
    let l = listed_is p x y o in
    let t = some_allowed p x y o d.0.1 d.1.1 in
    let u = greatest-reached (after w f p) t.0 (listed p x y) (l.every t.0 t.1) in
    record {
      bound = λ v a. mapped_bound (after w f p) v (listed p x y) (l.every v a);
      reached = (u.0, l.only u.0 u.1, u.2);
    }
