-- What a shift of one checker keeps.
use Rattle.std.proofs.Common.{◌≡◌, ℕ, ◌+◌, ◌-◌, ◌<◌, List, length, sum, arith, length-set}
use Rattle.std.proofs.lemmas.List.Sums.{sum_by-set}
use Rattle.board.specs.Side.{on, less, shifted, Complete}

pub less-sum : (side : List ℕ) (s : ℕ) → s < length side → 0 < on side s → sum (less side s) + 1 ≡ sum side
less-sum side s w h = omega (arith, sum_by-set (λ x. x) side s (on side s - 1) 0 w)

pub shifted_complete : (side : List ℕ) (s t : ℕ) → s < length side → t < length side → Complete side → 0 < on side s → Complete (shifted side s t)
shifted_complete side s t w v f h =
    let l : t < length (less side s) = simp length-set v in
    omega (arith, less-sum side s w h, sum_by-set (λ x. x) (less side s) t (on (less side s) t + 1) 0 l)
