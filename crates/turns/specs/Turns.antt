-- The turns that a roll of x and y allows.
use Rattle.std.specs.Prelude.{◌≡◌, ℕ, ◌<◌, ◌≤◌, max, ◌⊎◌, List, length, ◌≢◌, slice_index_or}
use Rattle.board.specs.Side.{on, checkers}
use Rattle.board.specs.Position.{Position}
use Rattle.board.specs.Single.{Legal}
use Rattle.turns.specs.Roll.{rolled}
use Rattle.turns.specs.Runs.{Move, Run, played}

-- the die alone could be played
abbrev pub Playable : Position → ℕ → Type 0
Playable b d = (s : ℕ) × Legal b s d

-- it ends with the last checker borne off
abbrev pub Finishes : Position → List Move → Type 0
Finishes b turn = (0 < length turn) × (on (played b turn).own 0 ≡ checkers)

-- no run of the roll uses more dice
abbrev pub AsMany : Position → List ℕ → List Move → Type 0
AsMany b dice turn = (ms : List Move) → Run b dice ms → length ms ≤ length turn

-- one die is all that can be played, and it could be either
abbrev pub Either : Position → ℕ → ℕ → List Move → Type 0
Either b x y turn = (length turn ≡ 1) × (x ≢ y) × Playable b x × Playable b y

-- its move, the first, uses the larger die
abbrev pub Larger : ℕ → ℕ → List Move → Type 0
Larger x y turn = (slice_index_or turn 0 (0, 0)).1 ≡ max x y

-- a run that bears off the last checker; or one of as many dice as any, and of the larger die where either could be played but not both
abbrev pub Allowed : Position → ℕ → ℕ → List Move → Type 0
Allowed b x y turn =
    Run b (rolled x y) turn × (Finishes b turn ⊎ (AsMany b (rolled x y) turn × (Either b x y turn → Larger x y turn)))
