-- The best and the mean of values that hold whole numbers over a power of 36.
use Rattle.std.proofs.Common.{ℕ, suc, ◌+◌, ◌*◌, max, List, [], ◌∷◌, map, fold, add_assoc, arith}
use Rattle.chance.specs.Fraction.{Fraction, Same, nothing, plus, over36}
use Rattle.chance.specs.Held.{Held}
use Rattle.chance.specs.declared.kind.Chance.{Ghosts}
use Rattle.chance.proofs.Powers.{greater_over, plus_over, mean_over}
use Rattle.folds.specs.Best.{best, AllHeld}
use Rattle.folds.specs.Mean.{weighed, weights, values, summed, Ready}
use Rattle.folds.proofs.Means.{mean-holds}

-- the numbers by their weights, added up
abbrev pub total : List ℕ → List ℕ → ℕ
total [] ns = 0
total (w ∷ ws) [] = 0
total (w ∷ ws) (a ∷ ns) = w * a + total ws ns

weighed_over : (n t : ℕ) (q : Fraction) (ws ns : List ℕ) → Same q (over36 n t) → Same (weighed q ws (map (over36 n) ns)) (over36 n (t + total ws ns))
weighed_over n t q [] ns e = omega (arith, e)
weighed_over n t q (w ∷ ws) [] e = omega (arith, e)
weighed_over n t q (w ∷ ws) (a ∷ ns) e =
    let h = weighed_over n (t + w * a) (plus q w (over36 n a)) ws ns (plus_over n t w a q e) in
    rw add_assoc at h

module _ {V S R : Type 0} (k : Ghosts V S R) where
  pub best_over_all : (n a : ℕ) (x : V) (ys : List V) (ns : List ℕ) → Held k x (over36 n a) → AllHeld k ys (map (over36 n) ns) → Held k (best k x ys) (over36 n (fold max a ns))
  best_over_all n a x [] [] h i = h
  best_over_all n a x [] (_ ∷ _) h i = absurd i
  best_over_all n a x (y ∷ ys) [] h i = absurd i
  best_over_all n a x (y ∷ ys) (b ∷ ns) h i =
      let both = greater_over _ _ _ n a b (k.rules.better_holds x y (over36 n a) (over36 n b) h i.0) in
      best_over_all n (max a b) (k.better x y) ys ns both i.1

  pub mean_of_over : (n : ℕ) (ps : List (ℕ × V)) (ns : List ℕ) → Ready k ps → AllHeld k (values ps) (map (over36 n) ns) → Held k (k.closed (summed k k.empty ps)) (over36 (suc n) (total (weights ps) ns))
  mean_of_over n ps ns r h =
      let e = weighed_over n 0 nothing (weights ps) ns (omega arith) in
      mean_over _ _ _ n (total (weights ps) ns) (weighed nothing (weights ps) (map (over36 n) ns)) (omega (arith, e)) (mean-holds k ps r (map (over36 n) ns) h)
