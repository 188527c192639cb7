-- The best of a roll over a lent table.
use Rattle.std.specs.Prelude.{◌≡◌, ℕ, ◌*◌, List, length, ◌≢◌}
use Rattle.refusals.specs.declared.reason.Reason.TheVariants.{DieOutOfRange, TableSizeOutOfRange, WrongPartSize, NotAnEnding}
use Rattle.refusals.specs.declared.refusal.Refusal.{Refusal}
use Rattle.refusals.specs.Fields.{plain}
use Rattle.refusals.specs.Order.{Refuse, Accept}
use Rattle.board.specs.Position.{Position}
use Rattle.turns.specs.Roll.{Roll}
use Rattle.chance.specs.declared.kind.Chance.{Ghosts}
use Rattle.endings.specs.Ending.{EndingFor}
use Rattle.endings.specs.Place.{place, places_of}
use Rattle.endings.specs.Rolls.{TwoDice}
use Rattle.places.specs.Asked.{Size}
use Rattle.tables.specs.Parts.{best_place}
use Rattle.tables.specs.Led.{places_led_to}

module _ {V S R : Type 0} (k : Ghosts V S R) (n : ℕ) (p : Position) (r : TwoDice) (rows : List R) where
  -- the best of the roll in an ending for n
  pub record RollBest (v : V) : Type 0 where
    pub roll : Roll r.0 r.1
    pub size : Size n
    pub square : length rows ≡ places_of n * places_of n
    pub ending : EndingFor n p
    pub best : v ≡ best_place k (places_of n) rows (place n p.other) (places_led_to n p r)

  -- why there is none, in checking order
  abbrev pub Unjudged : Refusal → Type 0
  Unjudged =
      Refuse (Roll r.0 r.1 → ⊥) (plain DieOutOfRange)
      (Refuse (Size n → ⊥) (plain TableSizeOutOfRange)
      (Refuse (length rows ≢ places_of n * places_of n) (plain WrongPartSize)
      (Refuse (EndingFor n p → ⊥) (plain NotAnEnding) Accept)))
