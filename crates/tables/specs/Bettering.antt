-- The best of the turns that are shown one after another.
use Rattle.std.specs.Prelude.{◌≡◌, List, Some, None, Option}
use Rattle.board.specs.Position.{Position}
use Rattle.turns.specs.Runs.{Move}
use Rattle.chance.specs.declared.kind.Chance.{Ghosts}
use Rattle.endings.specs.Ending.{HomeFor}
use Rattle.endings.specs.Place.{place}
use Rattle.places.specs.Asked.{Size}
use Rattle.tables.specs.declared.judging.Best.{Best}
use Rattle.tables.specs.Parts.{value_after}

module _ {V S R : Type 0} (k : Ghosts V S R) where
  -- the after-value of a turn that leads to q
  abbrev pub shown_value : Best V S R → Position → V
  shown_value v q = value_after k v.rows.size v.rows.entries.now v.other (place v.n q.own)

  -- the first value is the best so far; a later one makes it the better of the two
  abbrev pub bettered : Option V → V → V
  bettered None x = x
  bettered (Some best) x = k.better best x

  abbrev pub Bettered : Best V S R → Option V → List Move → Position → Option V → Type 0
  Bettered v sum t q after = Size v.n → HomeFor v.n q.own → after ≡ Some (bettered sum (shown_value v q))
