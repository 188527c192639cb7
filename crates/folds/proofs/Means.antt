-- What a sum of weighted values comes to, from the rules of a kind.
use Rattle.std.proofs.Common.{◌≡◌, ℕ, ◌+◌, ◌<◌, List, [], ◌∷◌, sum_by, sym, refl, ap, ◌∙◌, subst, add-zero, zero-add, arith}
use Rattle.std.proofs.lemmas.List.Sums.{sum_by-cons}
use Rattle.chance.specs.Fraction.{Fraction, nothing, plus, mean}
use Rattle.chance.specs.Held.{Held}
use Rattle.chance.specs.declared.kind.Chance.{Ghosts}
use Rattle.folds.specs.Best.{oldest_from, AllHeld}
use Rattle.folds.specs.Mean.{AllFit, weighed, weights, values, summed, Ready}

module _ {V S R : Type 0} (k : Ghosts V S R) where
  pub summed-weight : (s : S) (ps : List (ℕ × V)) → AllFit (k.weight s) (weights ps) → k.weight (summed k s ps) ≡ k.weight s + sum_by (λ p. p.0) ps
  summed-weight s [] f = sym (add-zero _)
  summed-weight s (p ∷ ps) f =
      let e = k.rules.added_weight s p.0 p.1 f.0 in
      let h = summed-weight (k.added s p.0 p.1) ps (rw e f.1) in
      omega (arith, h, e, sum_by-cons (λ (p : ℕ × V). p.0) p ps)

  pub summed_oldest : (s : S) (ps : List (ℕ × V)) → AllFit (k.weight s) (weights ps) → k.oldest (summed k s ps) ≡ oldest_from k (k.oldest s) (values ps)
  summed_oldest s [] f = refl
  summed_oldest s (p ∷ ps) f =
      let e = k.rules.added_weight s p.0 p.1 f.0 in
      summed_oldest (k.added s p.0 p.1) ps (rw e f.1) ∙ ap (λ a. oldest_from k a (values ps)) (k.rules.added_oldest s p.0 p.1 f.0)

  pub summed-held : (s : S) (t : Fraction) (ps : List (ℕ × V)) (qs : List Fraction) → AllFit (k.weight s) (weights ps) → k.held s t → AllHeld k (values ps) qs → k.held (summed k s ps) (weighed t (weights ps) qs)
  summed-held s t [] qs f h a = h
  summed-held s t (p ∷ ps) [] f h a = absurd a
  summed-held s t (p ∷ ps) (q ∷ qs) f h a =
      let e = k.rules.added_weight s p.0 p.1 f.0 in
      summed-held (k.added s p.0 p.1) (plus t p.0 q) ps qs (rw e f.1) (k.rules.added_held s p.0 p.1 t q f.0 h a.0) a.1

  -- the same of the parts of an empty sum
  from_empty : (ws : List ℕ) → AllFit 0 ws → AllFit (k.weight k.empty) ws
  from_empty ws f = subst (λ t. AllFit t ws) (sym k.rules.empty_weight) f

  pub total-weight : (ps : List (ℕ × V)) → AllFit 0 (weights ps) → k.weight (summed k k.empty ps) ≡ sum_by (λ p. p.0) ps
  total-weight ps f = summed-weight k.empty ps (from_empty (weights ps) f) ∙ ap (λ t. t + sum_by (λ p. p.0) ps) k.rules.empty_weight ∙ zero-add _

  pub total_oldest : (ps : List (ℕ × V)) → AllFit 0 (weights ps) → k.oldest (summed k k.empty ps) ≡ oldest_from k 0 (values ps)
  total_oldest ps f = summed_oldest k.empty ps (from_empty (weights ps) f) ∙ ap (λ a. oldest_from k a (values ps)) k.rules.empty_oldest

  pub mean-holds : (ps : List (ℕ × V)) → Ready k ps → (qs : List Fraction) → AllHeld k (values ps) qs → Held k (k.closed (summed k k.empty ps)) (mean (weighed nothing (weights ps) qs))
  mean-holds ps r qs a =
      let young = subst (λ o. o < k.REACH) (sym (total_oldest ps r.fit)) r.young in
      k.rules.closed_holds _ _ (total-weight ps r.fit ∙ r.full) young (summed-held k.empty nothing ps qs (from_empty (weights ps) r.fit) k.rules.empty_held a)

  pub mean_age : (ps : List (ℕ × V)) → Ready k ps → k.age (k.closed (summed k k.empty ps)) ≡ oldest_from k 0 (values ps) + 1
  mean_age ps r =
      let young = subst (λ o. o < k.REACH) (sym (total_oldest ps r.fit)) r.young in
      k.rules.closed_age _ (total-weight ps r.fit ∙ r.full) young ∙ ap (λ o. o + 1) (total_oldest ps r.fit)
