-- The listing as a list of stored turns.
use Rattle.std.specs.Prelude.{◌≡◌, ℕ, List, [], ◌∷◌, ◌++◌, map, Ok, Err, Result, Vec, ⊤}
use Rattle.std.specs.declared.alloc.AllocError.{AllocError}
use Rattle.std.specs.declared.alloc.Global.{Global}
use Rattle.refusals.specs.declared.reason.Reason.TheVariants.{DieOutOfRange}
use Rattle.refusals.specs.Fields.{plain}
use Rattle.refusals.specs.declared.failure.Failure.{Failure}
use Rattle.refusals.specs.declared.failure.Failure.TheVariants.{Refused, NoMemory}
use Rattle.board.specs.declared.moves.Moves.{Moves}
use Rattle.board.specs.Moves.{moves_of}
use Rattle.board.specs.Position.{Position}
use Rattle.turns.specs.Roll.{Roll}
use Rattle.turns.specs.Runs.{Move}
use Rattle.listing.specs.Listing.{Listing}
use Rattle.listing.specs.Order.{listed}

-- the moves of the stored turns
abbrev pub stored : List (Moves 4) → List (List Move)
stored ts = map moves_of ts

-- where memory sufficed, the turn stands behind those collected before
abbrev pub Noted : Result (Vec (Moves 4) Global) AllocError → List Move → Position → Result (Vec (Moves 4) Global) AllocError → Type 0
Noted (Ok before) t p (Ok after) = stored after.items ≡ stored before.items ++ t ∷ []
Noted (Err e) t p (Ok after) = ⊥
Noted before t p (Err e) = ⊤

-- the stored turns are the listing: exactly the allowed turns, each once, in order
pub record Holding (b : Position) (x y : ℕ) (ts : List (Moves 4)) : Type 0 where
  pub listed : stored ts ≡ listed b x y
  pub listing : Listing b x y (stored ts)

-- why there is no listing: a die outside 1 to 6, or no memory for it
abbrev pub Unlisted : ℕ → ℕ → Failure → Type 0
Unlisted x y (Refused e) = (Roll x y → ⊥) × (e ≡ plain DieOutOfRange)
Unlisted x y NoMemory = Roll x y
