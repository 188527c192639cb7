-- Turns shown one after another.
use Rattle.std.specs.Prelude.{◌≡◌, ℕ, max, List, [], ◌∷◌, ◌++◌, ◌≢◌, Option, MatchOption, Ok, Err, Result}
use Rattle.refusals.specs.declared.refusal.Refusal.{Refusal}
use Rattle.refusals.specs.declared.reason.Reason.TheVariants.{DieOutOfRange}
use Rattle.refusals.specs.Fields.{plain}
use Rattle.board.specs.Position.{Position}
use Rattle.turns.specs.Roll.{Roll}
use Rattle.turns.specs.Runs.{Move, played}
use Rattle.turns.specs.Turns.{Playable}
use Rattle.listing.specs.Order.{listed}

-- the turns of a list, shown in their order, may take the sum v to w; each comes behind the moves made before, with the position that it leads to
abbrev pub Shown : {V : Type 0} → (V → List Move → Position → V → Type 0) → List Move → Position → V → List (List Move) → V → Type 0
Shown step before b v [] w = w ≡ v
Shown {V} step before b v (t ∷ ts) w = (u : V) × step v (before ++ t) (played b t) u × Shown step before b u ts w

-- the turns of the roll of x and y are shown; where they are no dice, that is refused and the first sum comes back
abbrev pub Visited : {V : Type 0} → (V → List Move → Position → V → Type 0) → Position → ℕ → ℕ → V → Result V (Refusal × V) → Type 0
Visited step b x y first (Ok sum) = Roll x y × Shown step [] b first (listed b x y) sum
Visited step b x y first (Err e) = (Roll x y → ⊥) × (e.0 ≡ plain DieOutOfRange) × (e.1 ≡ first)

-- one die is all that can be played, and it could be either
abbrev pub OneOfTwo : Position → ℕ → ℕ → ℕ → Type 0
OneOfTwo b x y n = (n ≡ 1) × (x ≢ y) × Playable b x × Playable b y

-- the die that is due: then the larger, and else none
abbrev pub Dues : Position → ℕ → ℕ → ℕ → Option ℕ → Type 0
Dues b x y n due = MatchOption due (OneOfTwo b x y n → ⊥) (λ d. OneOfTwo b x y n × (d ≡ max x y))
