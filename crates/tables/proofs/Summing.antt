-- The sum over the rolls, taken in one by one, and what closing it leaves.
use Rattle.std.proofs.Common.{◌≡◌, ℕ, List, [], ◌∷◌, map, fold, refl}
use Rattle.std.specs.List.{zip}
use Rattle.chance.specs.declared.kind.Chance.{Ghosts}
use Rattle.endings.specs.Rolls.{TwoDice, weight}
use Rattle.tables.specs.Parts.{best_place}
use Rattle.tables.specs.Sums.{sum_over}

-- the sum, over the rolls each with its places, which are read of X
pub sum_zipped : {V S R X : Type 0} (k : Ghosts V S R) (v : X → List ℕ) (size : ℕ) (rows : List R) (b : ℕ) (s : S) (rs : List TwoDice) (ts : List X) → sum_over k size rows b s rs (map v ts) ≡ fold (λ s p. k.added s (weight p.0) (best_place k size rows b (v p.1))) s (zip rs ts)
sum_zipped k v size rows b s [] ts = refl
sum_zipped k v size rows b s (r ∷ rs) [] = refl
sum_zipped k v size rows b s (r ∷ rs) (t ∷ ts) = sum_zipped k v size rows b (k.added s (weight r) (best_place k size rows b (v t))) rs ts
