-- What every run keeps to.
use Rattle.std.proofs.Common.{ℕ, ◌<◌, ◌≤◌, List, [], ◌∷◌, length, sum, inl, inr, arith}
use Rattle.std.proofs.lemmas.Bool.{cases_lt}
use Rattle.std.proofs.lemmas.List.{get_or_past}
use Rattle.board.specs.Side.{on, less}
use Rattle.board.specs.Position.{Position}
use Rattle.board.specs.Single.{moved}
use Rattle.board.proofs.Sides.{less-sum}
use Rattle.turns.specs.Runs.{Move, Run}

within : (xs : List ℕ) (i : ℕ) → 0 < on xs i → i < length xs
within xs i h = elim (cases_lt i (length xs)) [ inl k ↦ k | inr k ↦ absurd (omega (arith, get_or_past xs i 0 k)) ]

-- a run has no more moves than dice
pub run_few : (b : Position) (dice : List ℕ) (ms : List Move) → Run b dice ms → length ms ≤ sum dice
run_few b dice [] run = omega arith
run_few b dice (m ∷ ms) run =
    omega (arith, less-sum dice m.1 (within dice m.1 run.0) run.0, run_few (moved b m.0 m.1) (less dice m.1) ms run.2)
