-- What a sum over rolls holds, as a whole number over a power of 36, its weight and its age.
use Rattle.std.proofs.Common.{◌≡◌, ℕ, suc, ◌+◌, ◌*◌, ◌<◌, ◌≤◌, max, eqb, List, [], ◌∷◌, map, fold, sum_by, refl, ap, ◌∙◌, inl, inr, arith}
use Rattle.std.proofs.lemmas.List.Sums.{sum_by-cons}
use Rattle.std.proofs.lemmas.Bool.{cond_both}
use Rattle.listing.specs.Order.{greatest}
use Rattle.listing.specs.Listing.{In}
use Rattle.chance.specs.Fraction.{Fraction, Same, nothing, plus, over36}
use Rattle.chance.specs.Sums.{Fits}
use Rattle.chance.specs.declared.kind.Chance.{Ghosts}
use Rattle.chance.proofs.Powers.{plus_over, mean_over}
use Rattle.endings.specs.Rolls.{TwoDice, weight}
use Rattle.values.proofs.Bests.{Aged}

weight_some : (r : TwoDice) → 0 < weight r
weight_some r = cond_both (eqb r.0 r.1) 1 2 (λ w. 0 < w) (λ _. omega arith) (λ _. omega arith)

-- the sum holds total of 36 ^ n, and has this weight and greatest age
pub record Sums {V S R : Type 0} (k : Ghosts V S R) (n total heavy oldest : ℕ) (s : S) : Type 0 where
  pub by : Fraction
  pub holds : k.held s by
  pub is : Same by (over36 n total)
  pub weighs : k.weight s ≡ heavy
  pub old : k.oldest s ≡ oldest

module _ {V S R : Type 0} (k : Ghosts V S R) where
  pub as_is : (n : ℕ) {t t' w w' a a' : ℕ} {s : S} → t ≡ t' → w ≡ w' → a ≡ a' → Sums k n t w a s → Sums k n t' w' a' s
  as_is n x y z u = record { by = u.by; holds = u.holds; is = u.is ∙ ap (λ v. v * u.by.den) x; weighs = u.weighs ∙ y; old = u.old ∙ z }

  pub empty-sum : (n : ℕ) → Sums k n 0 0 0 k.empty
  empty-sum n = record { by = nothing; holds = k.rules.empty_held; is = omega arith; weighs = k.rules.empty_weight; old = k.rules.empty_oldest }

  added_sum : (n t w a : ℕ) (s : S) (r : TwoDice) (v : V) (b c : ℕ) → Sums k n t w a s → w + weight r ≤ 36 → Aged k n v b c → Sums k n (t + weight r * b) (w + weight r) (max a c) (k.added s (weight r) v)
  added_sum n t w a s r v b c u l i =
      let fits : Fits (k.weight s) (weight r) = record { some = weight_some r; room = omega (arith, u.weighs) } in
      record {
        by = plus u.by (weight r) (over36 n b);
        holds = k.rules.added_held s (weight r) v u.by (over36 n b) fits u.holds i.0;
        is = plus_over n t (weight r) b u.by u.is;
        weighs = omega (arith, k.rules.added_weight s (weight r) v fits, u.weighs);
        old = omega (arith, k.rules.added_oldest s (weight r) v fits, u.old, i.1);
      }

  pub sum_aged : (n : ℕ) (f : TwoDice → V) (g h : TwoDice → ℕ) (s : S) (t w a : ℕ) (rs : List TwoDice) → Sums k n t w a s → w + sum_by weight rs ≤ 36 → ((r : TwoDice) → In r rs → Aged k n (f r) (g r) (h r)) → Sums k n (t + sum_by (λ r. weight r * g r) rs) (w + sum_by weight rs) (max a (greatest (map h rs))) (fold (λ s r. k.added s (weight r) (f r)) s rs)
  sum_aged n f g h s t w a [] u l e =
      let x : t + 0 ≡ t = omega arith in
      let y : w + 0 ≡ w = omega arith in
      let z : max a 0 ≡ a = omega arith in
      rw (x, y, z) u
  sum_aged n f g h s t w a (r ∷ rs) u l e =
      let c = sum_by-cons weight r rs in
      let d = sum_by-cons (λ r. weight r * g r) r rs in
      let one = added_sum n t w a s r (f r) (g r) (h r) u (omega (arith, c)) (e r (inl refl)) in
      let all = sum_aged n f g h (k.added s (weight r) (f r)) (t + weight r * g r) (w + weight r) (max a (h r)) rs one (omega (arith, c)) (λ q i. e q (inr i)) in
      let x : (t + weight r * g r) + sum_by (λ r. weight r * g r) rs ≡ t + sum_by (λ r. weight r * g r) (r ∷ rs) = omega (arith, d) in
      let y : (w + weight r) + sum_by weight rs ≡ w + sum_by weight (r ∷ rs) = omega (arith, c) in
      let z : max (max a (h r)) (greatest (map h rs)) ≡ max a (greatest (map h (r ∷ rs))) = omega arith in
      as_is n x y z all

  pub closed_aged : (n total age : ℕ) (s : S) → Sums k n total 36 age s → age < k.REACH → Aged k (suc n) (k.closed s) total (suc age)
  closed_aged n total age s u l =
      let young : k.oldest s < k.REACH = omega (arith, u.old) in
      (mean_over _ _ _ n total u.by u.is (k.rules.closed_holds s u.by u.weighs young u.holds), omega (arith, k.rules.closed_age s u.weighs young, u.old))
