-- Where the turns of a side lead.
use Rattle.std.specs.Prelude.{◌≡◌, ℕ, List, [], ◌∷◌, ◌++◌, map, Ok, Err, Result, Vec, vec_items, ⊤}
use Rattle.std.specs.declared.alloc.AllocError.{AllocError}
use Rattle.std.specs.declared.alloc.Global.{Global}
use Rattle.refusals.specs.declared.reason.Reason.TheVariants.{TableSizeOutOfRange, NotAnEnding}
use Rattle.refusals.specs.declared.failure.Failure.{Failure}
use Rattle.refusals.specs.declared.failure.Failure.TheVariants.{Refused, NoMemory}
use Rattle.refusals.specs.Fields.{plain}
use Rattle.refusals.specs.Order.{Refuse, Accept}
use Rattle.board.specs.Position.{Position}
use Rattle.turns.specs.Runs.{Move, played}
use Rattle.listing.specs.Order.{listed}
use Rattle.endings.specs.Ending.{HomeFor}
use Rattle.endings.specs.Rolls.{TwoDice}
use Rattle.endings.specs.Place.{place}
use Rattle.places.specs.Asked.{Size}

-- a side against itself
abbrev pub facing : List ℕ → Position
facing side = record { own = side; other = side }

-- the places of the roller's side after the turns of a roll, in listing order
abbrev pub places_led_to : ℕ → Position → TwoDice → List ℕ
places_led_to n p r = map (λ t. place n (played p t).own) (listed p r.0 r.1)

-- where memory sufficed, the place of a home side after the turn stands behind those before
abbrev pub Kept : ℕ → Result (Vec ℕ Global) AllocError → List Move → Position → Result (Vec ℕ Global) AllocError → Type 0
Kept n (Ok before) t p (Ok after) = Size n → HomeFor n p.own → vec_items after ≡ vec_items before ++ (place n p.own ∷ [])
Kept n (Err e) t p (Ok after) = ⊥
Kept n before t p (Err e) = ⊤

-- why the turns cannot be had: n outside 1 to 6, then a side that is not home or has more checkers; or no memory for them
abbrev pub Unturned : ℕ → List ℕ → Failure → Type 0
Unturned n side (Refused e) = Refuse (Size n → ⊥) (plain TableSizeOutOfRange) (Refuse (HomeFor n side → ⊥) (plain NotAnEnding) Accept) e
Unturned n side NoMemory = Size n × HomeFor n side
