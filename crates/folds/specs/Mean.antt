-- The mean of weighted values, and what it holds.
use Rattle.std.specs.Prelude.{◌≡◌, ℕ, ◌+◌, ◌<◌, ◌≤◌, List, [], ◌∷◌, map, Ok, Err, fold, sum_by, Result}
use Rattle.refusals.specs.declared.refusal.Refusal.{Refusal}
use Rattle.refusals.specs.declared.reason.Reason.TheVariants.{WeightOutOfRange, SumNotFull, SumTooOld}
use Rattle.refusals.specs.Fields.{plain}
use Rattle.chance.specs.Fraction.{Fraction, nothing, plus, mean}
use Rattle.chance.specs.Held.{Held}
use Rattle.chance.specs.Sums.{Fits}
use Rattle.chance.specs.declared.kind.Chance.{Ghosts}
use Rattle.folds.specs.Best.{oldest_from, AllHeld}

-- each weight fits the sum before it, where that begins with weight t
abbrev pub AllFit : ℕ → List ℕ → Type 0
AllFit t [] = Unit {0}
AllFit t (w ∷ ws) = Fits t w × AllFit (t + w) ws

-- t and the fractions by their weights, added up
abbrev pub weighed : Fraction → List ℕ → List Fraction → Fraction
weighed t [] qs = t
weighed t (w ∷ ws) [] = t
weighed t (w ∷ ws) (q ∷ qs) = weighed (plus t w q) ws qs

-- the weights of parts, in order
abbrev pub weights : {V : Type 0} → List (ℕ × V) → List ℕ
weights ps = map (λ p. p.0) ps

-- the values of parts, in order
abbrev pub values : {V : Type 0} → List (ℕ × V) → List V
values ps = map (λ p. p.1) ps

-- the weights in all
abbrev pub in_all : {V : Type 0} → List (ℕ × V) → ℕ
in_all ps = sum_by (λ p. p.0) ps

-- the sum after all parts have been added to it, in order
abbrev pub summed : {V S R : Type 0} → Ghosts V S R → S → List (ℕ × V) → S
summed k s ps = fold (λ s p. k.added s p.0 p.1) s ps

-- the parts can be added and closed
pub record Ready {V S R : Type 0} (k : Ghosts V S R) (ps : List (ℕ × V)) : Type 0 where
  pub fit : AllFit 0 (weights ps)
  pub full : in_all ps ≡ 36
  pub young : oldest_from k 0 (values ps) < k.REACH

-- the mean of the parts: which refusal or value is answered, what the value holds, and its age
pub record Mean {V S R : Type 0} (k : Ghosts V S R) (ps : List (ℕ × V)) (r : Result V Refusal) : Type 0 where
  -- first, a weight that does not fit the sum before it
  pub misfit : (AllFit 0 (weights ps) → ⊥) → r ≡ Err (plain WeightOutOfRange)
  -- then, less than 36 in all
  pub short : AllFit 0 (weights ps) → in_all ps < 36 → r ≡ Err (plain SumNotFull)
  -- then, the greatest age is the reach
  pub old : AllFit 0 (weights ps) → in_all ps ≡ 36 → k.REACH ≤ oldest_from k 0 (values ps) → r ≡ Err (plain SumTooOld)
  -- otherwise the closed sum
  pub done : Ready k ps → r ≡ Ok (k.closed (summed k k.empty ps))
  -- which holds the weighted mean of whatever fractions the values hold
  pub holds : Ready k ps → (qs : List Fraction) → AllHeld k (values ps) qs → Held k (k.closed (summed k k.empty ps)) (mean (weighed nothing (weights ps) qs))
  -- and is one older than the oldest
  pub age : Ready k ps → k.age (k.closed (summed k k.empty ps)) ≡ oldest_from k 0 (values ps) + 1
