-- Why a turn is refused: the first fault in checking order.
use Rattle.std.specs.Prelude.{ℕ, suc, ◌<◌, ◌≤◌, List, [], ◌∷◌, length, sum}
use Rattle.refusals.specs.declared.refusal.Refusal.{Refusal}
use Rattle.refusals.specs.declared.reason.Reason.TheVariants.{DieOutOfRange, TooManyMoves, NoSuchStartOrDie, IllegalMove, TooFewDice, SmallerDie}
use Rattle.refusals.specs.Fields.{plain, refusal_at_move}
use Rattle.refusals.specs.Order.{Refuse, Accept}
use Rattle.board.specs.Side.{on, less}
use Rattle.board.specs.Position.{Position}
use Rattle.board.specs.Single.{Legal, moved}
use Rattle.turns.specs.Roll.{Roll, rolled}
use Rattle.turns.specs.Runs.{Move, Run}
use Rattle.turns.specs.Turns.{Finishes, Either, Larger}

-- the start of a move is a point or the bar, and its die is left
abbrev pub AtHand : List ℕ → Move → Type 0
AtHand dice m = (1 ≤ m.0) × (m.0 ≤ 25) × (0 < on dice m.1)

-- move by move from the nth: its start and die, then the move itself; the rest after the last
abbrev pub MoveByMove : ℕ → Position → List ℕ → List Move → (Refusal → Type 0) → Refusal → Type 0
MoveByMove n b dice [] rest = rest
MoveByMove n b dice (m ∷ ms) rest =
    Refuse (AtHand dice m → ⊥) (refusal_at_move NoSuchStartOrDie n)
    (Refuse (Legal b m.0 m.1 → ⊥) (refusal_at_move IllegalMove n)
    (MoveByMove (suc n) (moved b m.0 m.1) (less dice m.1) ms rest))

-- some run uses more dice than the turn
abbrev pub Longer : Position → List ℕ → List Move → Type 0
Longer b dice turn = (ms : List Move) × Run b dice ms × (length turn < length ms)

-- a run that does not bear off the last checker uses too few dice
abbrev pub TooFew : Position → ℕ → ℕ → List Move → Type 0
TooFew b x y turn = (Finishes b turn → ⊥) × Longer b (rolled x y) turn

-- it uses the smaller die where it could be either and not both
abbrev pub Smaller : Position → ℕ → ℕ → List Move → Type 0
Smaller b x y turn = (Finishes b turn → ⊥) × Either b x y turn × (Larger x y turn → ⊥)

-- the refusals of a turn in checking order
abbrev pub Refused : Position → ℕ → ℕ → List Move → Refusal → Type 0
Refused b x y turn =
    Refuse (Roll x y → ⊥) (plain DieOutOfRange)
    (Refuse (sum (rolled x y) < length turn) (plain TooManyMoves)
    (MoveByMove 1 b (rolled x y) turn
    (Refuse (TooFew b x y turn) (plain TooFewDice)
    (Refuse (Smaller b x y turn) (plain SmallerDie) Accept))))
