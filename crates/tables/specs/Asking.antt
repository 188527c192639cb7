-- Asking a table for an ending.
use Rattle.std.specs.Prelude.{◌≡◌, ℕ, ◌*◌, ◌<◌, ◌≤◌, List, length}
use Rattle.refusals.specs.declared.reason.Reason.TheVariants.{TableSizeOutOfRange, WrongPartSize, NotAnEnding, PastReach}
use Rattle.refusals.specs.declared.refusal.Refusal.{Refusal}
use Rattle.refusals.specs.Fields.{plain}
use Rattle.refusals.specs.Order.{Refuse, Accept}
use Rattle.board.specs.Side.{counts_with_off}
use Rattle.board.specs.Setup.{Rule, placed}
use Rattle.chance.specs.declared.kind.Chance.{Ghosts}
use Rattle.endings.specs.Ending.{EndingFor}
use Rattle.endings.specs.Place.{place, places_of}
use Rattle.places.specs.Asked.{Size}
use Rattle.tables.specs.Parts.{length_at, value_in}

-- the counts on points 1 to 25 are the sides of an ending for n
pub record AskedEnding (n : ℕ) (own other : List ℕ) : Type 0 where
  pub rule : Rule own other
  pub ending : EndingFor n (placed own other)

-- both parts have an entry for each pair of places
pub record Square {R : Type 0} (n : ℕ) (lengths : List ℕ) (rows : List R) : Type 0 where
  pub long : length lengths ≡ places_of n * places_of n
  pub wide : length rows ≡ places_of n * places_of n

module _ {V S R : Type 0} (k : Ghosts V S R) (n : ℕ) (own other lengths : List ℕ) (rows : List R) where
  abbrev pub length_asked : ℕ
  length_asked = length_at (places_of n) lengths (place n (counts_with_off own)) (place n (counts_with_off other))

  abbrev pub value_asked : V
  value_asked = value_in k (places_of n) rows (place n (counts_with_off own)) (place n (counts_with_off other))

  -- lower end, upper end and age of the entry
  pub record Answered (r : ℕ × ℕ × ℕ) : Type 0 where
    pub size : Size n
    pub square : Square n lengths rows
    pub asked : AskedEnding n own other
    pub within : length_asked ≤ k.REACH
    pub ends : r ≡ (k.lower value_asked, k.upper value_asked, k.age value_asked)

  -- why there is no answer, in checking order
  abbrev pub Unanswered : Refusal → Type 0
  Unanswered =
      Refuse (Size n → ⊥) (plain TableSizeOutOfRange)
      (Refuse (Square n lengths rows → ⊥) (plain WrongPartSize)
      (Refuse (AskedEnding n own other → ⊥) (plain NotAnEnding)
      (Refuse (k.REACH < length_asked) (plain PastReach) Accept)))
