-- The place of a side, point by point.
use Rattle.std.proofs.Common.{◌≡◌, ℕ, zero, suc, ◌+◌, ◌-◌, ◌*◌, ◌<◌, ◌≤◌, List, length, sum, sym, refl, arith}
use Rattle.std.proofs.lemmas.List.Sums.{sum_by-cons}
use Rattle.board.specs.Side.{on, checkers, Complete}
use Rattle.endings.specs.Ending.{HomeFor}
use Rattle.endings.specs.Place.{counts_from, counts, place}
use Rattle.endings.proofs.Wide.{counts-left, counts_home}
use Rattle.endings.proofs.HomePlaces.{few_counts}
use Rattle.places.specs.Ways.{ways, rank}
use Rattle.places.proofs.ByWays.{rank_is}

-- one point more
pub step : (p left : ℕ) (side : List ℕ) → 1 ≤ p → rank p left (counts_from p side) ≡ (ways p left - ways p (left - on side p)) + rank (p - 1) (left - on side p) (counts_from (p - 1) side)
step zero left side i = absurd (omega arith)
step (suc k) left side i = let e : suc k - 1 ≡ k = omega arith in rw e

pub step_sum : (p : ℕ) (side : List ℕ) → 1 ≤ p → on side p + sum (counts_from (p - 1) side) ≡ sum (counts_from p side)
step_sum zero side i = absurd (omega arith)
step_sum (suc k) side i = let e : suc k - 1 ≡ k = omega arith in rw e (sym (sum_by-cons (λ x. x) (on side (suc k)) (counts_from k side)))

pub whole : (n : ℕ) (side : List ℕ) → sum (counts side) ≤ n → rank 6 n (counts side) ≡ place n side
unfolding place
whole n side l = sym (rank_is 6 n (counts side) refl l)

-- the points from p to 6 are passed: so many checkers may still come, and so many sides come before
pub record Ranking (n : ℕ) (side : List ℕ) (p left before : ℕ) : Type 0 where
  pub few : left ≤ n
  pub summed : sum (counts side) + left ≡ n + sum (counts_from (p - 1) side)
  pub ranked : before + rank (p - 1) left (counts_from (p - 1) side) ≡ rank 6 n (counts side)
  pub small : before + 924 * p ≤ 924 * 7

module _ (n : ℕ) (side : List ℕ) (p left before : ℕ) (r : Ranking n side p left before) where
  pub too_many : 1 ≤ p - 1 → left < on side (p - 1) → HomeFor n side → ⊥
  too_many i l h = omega (arith, r.summed, step_sum (p - 1) side i, few_counts n side h)

  summed_all : p - 1 ≡ 0 → sum (counts side) + left ≡ n
  summed_all z = let s = r.summed in omega (arith, rw z at s)

  pub not_home : p - 1 ≡ 0 → (on side 0 + (n - left) ≡ checkers → ⊥) → HomeFor n side → ⊥
  not_home z ne h = ne (omega (arith, summed_all z, counts-left side h.home, r.few))

  pub all_home : p - 1 ≡ 0 → length side ≡ 26 → Complete side → on side 0 + (n - left) ≡ checkers → HomeFor n side × (before ≡ place n side)
  all_home z l c e =
      let s = summed_all z in
      let k = r.ranked in (
        record { home = counts_home side l c (omega (arith, s, e, r.few)); few = omega (arith, s, e) },
        omega (arith, rw z at k, whole n side (omega (arith, s))),
      )
