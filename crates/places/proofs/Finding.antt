-- The side at a place, point by point.
use Rattle.std.proofs.Common.{◌≡◌, ℕ, ◌+◌, ◌-◌, ◌<◌, ◌≤◌, List, length, set, replicate, sum, sym, refl, ◌∙◌, arith, length-set}
use Rattle.std.proofs.lemmas.List.{get_or-set_same, get_or-set_other, get_or-replicate}
use Rattle.std.proofs.lemmas.Bool.{eqb-true}
use Rattle.board.specs.Side.{on, checkers, NoneAbove}
use Rattle.listing.proofs.Test.{clear_from}
use Rattle.endings.specs.Ending.{HomeFor}
use Rattle.endings.specs.Place.{counts_from, counts, place}
use Rattle.endings.proofs.Wide.{counts-sum}
use Rattle.places.specs.Ways.{ways, rank}
use Rattle.places.proofs.Table.{fewer, no_points}
use Rattle.places.proofs.Ranking.{step, step_sum, whole}

-- the counts on the points from p to 6 are found
abbrev Like : ℕ → List ℕ → List ℕ → Type 0
Like p side s = (q : ℕ) → 1 ≤ q → p ≤ q → q ≤ 6 → on s q ≡ on side q

-- then whatever stands below, so many checkers may still come and so many of the sides before are left
pub record Finding (n i : ℕ) (p left before : ℕ) (side : List ℕ) : Type 0 where
  pub few : left ≤ n
  pub long : length side ≡ 26
  pub none : NoneAbove side 6
  pub within : before < ways (p - 1) left
  pub summed : (s : List ℕ) → Like p side s → sum (counts s) + left ≡ n + sum (counts_from (p - 1) s)
  pub ranked : (s : List ℕ) → Like p side s → rank 6 n (counts s) + before ≡ i + rank (p - 1) left (counts_from (p - 1) s)

pub finding_none : (n i : ℕ) → i < ways 6 n → Finding n i 7 n i (replicate 26 0)
finding_none n i l =
    record {
      few = omega arith;
      long = refl;
      none = λ q a b. get_or-replicate {A = ℕ} 26 q 0 0 (omega arith);
      within = l;
      summed = λ s _. omega arith;
      ranked = λ s _. omega arith;
    }

module _ (n i p left before : ℕ) (side : List ℕ) (f : Finding n i p left before side) where
  module _ (h w v : ℕ) (a : 1 ≤ p - 1) (b : p ≤ 7) (few : h ≤ left) (e : w ≡ ways (p - 1) left) (d : v ≡ ways (p - 1) (left - h)) (from : w ≤ before + v) (to : before + v < w + ways (p - 1 - 1) (left - h)) where
    shrinks : v ≤ w
    shrinks = rw (e, d) (fewer (p - 1) left (left - h) a (omega arith))

    there : p - 1 < length side
    there = omega (arith, f.long)

    module _ (s : List ℕ) (like : Like (p - 1) (set side (p - 1) h) s) where
      here : on s (p - 1) ≡ h
      here = like (p - 1) a (omega arith) (omega arith) ∙ get_or-set_same side (p - 1) h 0 there

      above : Like p side s
      above q j k m =
          let ne : q ≡ p - 1 → ⊥ = λ z. omega arith in
          like q j (omega arith) m ∙ get_or-set_other side (p - 1) q h 0 ne

      summed-more : sum (counts s) + (left - h) ≡ n + sum (counts_from (p - 1 - 1) s)
      summed-more = omega (arith, f.summed s above, step_sum (p - 1) s a, here)

      ranked-more : rank 6 n (counts s) + (before - (w - v)) ≡ i + rank (p - 1 - 1) (left - h) (counts_from (p - 1 - 1) s)
      ranked-more =
          let t = step (p - 1) left s a in
          let t' = rw (here, sym e, sym d) at t in
          omega (arith, f.ranked s above, t', from, shrinks)

    pub finding_more : Finding n i (p - 1) (left - h) (before - (w - v)) (set side (p - 1) h)
    finding_more =
        record {
          few = omega (arith, f.few);
          long = length-set side (p - 1) h ∙ f.long;
          none = λ q k m. let ne : q ≡ p - 1 → ⊥ = λ z. omega arith in get_or-set_other side (p - 1) q h 0 ne ∙ f.none q k m;
          within = omega (arith, from, to, shrinks);
          summed = summed-more;
          ranked = ranked-more;
        }

  pub found : p - 1 ≡ 0 → n ≤ 6 → HomeFor n (set side 0 (checkers - (n - left))) × (i ≡ place n (set side 0 (checkers - (n - left))))
  found z l =
      let s = set side 0 (checkers - (n - left)) in
      let off : on s 0 ≡ checkers - (n - left) = get_or-set_same side 0 _ 0 (omega (arith, f.long)) in
      let other : (q : ℕ) → 1 ≤ q → on s q ≡ on side q = λ q k. let ne : q ≡ 0 → ⊥ = λ y. omega arith in get_or-set_other side 0 q _ 0 ne in
      let long : length s ≡ 26 = length-set side 0 _ ∙ f.long in
      let none : NoneAbove s 6 = λ q k j. other q (omega arith) ∙ f.none q k j in
      let like : Like p side s = λ q j k m. other q j in
      let a = f.summed s like in
      let b = f.ranked s like in
      let sums : sum (counts s) + left ≡ n = omega (arith, rw z at a) in
      let w = f.within in
      let last : before ≡ 0 = omega (arith, rw z at w, no_points left) in
      let ranks : rank 6 n (counts s) ≡ i = omega (arith, rw z at b, last) in (
        record {
          home = record { long = long; complete = omega (arith, counts-sum s long, eqb-true _ 0 (clear_from s 6 long none), off, sums); none = none };
          few = omega (arith, off, f.few);
        },
        omega (arith, ranks, whole n s (omega (arith, sums))),
      )
