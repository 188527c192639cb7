-- What is answered about a turn.
use Rattle.std.specs.Prelude.{◌≡◌, ℕ, List, Ok, Err, Result}
use Rattle.refusals.specs.declared.refusal.Refusal.{Refusal}
use Rattle.refusals.specs.Order.{Accept}
use Rattle.board.specs.declared.board.Board.{Board}
use Rattle.board.specs.Position.{Position, position}
use Rattle.turns.specs.Roll.{Roll}
use Rattle.turns.specs.Runs.{Move, Run, played}
use Rattle.turns.specs.Turns.{Allowed}
use Rattle.turns.specs.Refused.{MoveByMove, Refused}

-- the board after a run, and otherwise the first fault of its moves
abbrev pub Walked : Position → List ℕ → List Move → Result Board Refusal → Type 0
Walked b dice turn (Ok after) = Run b dice turn × (position after ≡ played b turn)
Walked b dice turn (Err e) = MoveByMove 1 b dice turn Accept e

-- the board after an allowed turn of a roll, and otherwise the first refusal that applies
abbrev pub Checked : Position → ℕ → ℕ → List Move → Result Board Refusal → Type 0
Checked b x y turn (Ok after) = Roll x y × Allowed b x y turn × (position after ≡ played b turn)
Checked b x y turn (Err e) = Refused b x y turn e
