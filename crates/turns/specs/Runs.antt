-- Runs of single moves, and the most dice that a run can use.
use Rattle.std.specs.Prelude.{◌≡◌, ℕ, ◌<◌, ◌≤◌, List, [], ◌∷◌, length, fold}
use Rattle.board.specs.Side.{on, less}
use Rattle.board.specs.Position.{Position}
use Rattle.board.specs.Single.{Legal, moved}

-- a single move: its start, and its die
abbrev pub Move : Type 0
Move = ℕ × ℕ

-- the position that the moves lead to
abbrev pub played : Position → List Move → Position
played b ms = fold (λ p m. moved p m.0 m.1) b ms

-- every move is legal where its forerunners lead, and takes a die that they left; of the number d there are `on dice d`
abbrev pub Run : Position → List ℕ → List Move → Type 0
Run b dice [] = Unit {0}
Run b dice (m ∷ ms) = (0 < on dice m.1) × Legal b m.0 m.1 × Run (moved b m.0 m.1) (less dice m.1) ms

-- some run uses r dice, and no run uses more
pub record Most (b : Position) (dice : List ℕ) (r : ℕ) : Type 0 where
  pub some : (ms : List Move) × Run b dice ms × (length ms ≡ r)
  pub none : (ms : List Move) → Run b dice ms → length ms ≤ r
