-- Parts that have the defined entries.
use Rattle.std.specs.Prelude.{◌≡◌, ℕ, ◌^◌, ◌≤◌, List, map}
use Rattle.board.specs.Position.{Position}
use Rattle.chance.specs.declared.kind.Chance.{Ghosts}
use Rattle.endings.specs.Ending.{EndingFor}
use Rattle.endings.specs.Rolls.{TwoDice, rolls}
use Rattle.endings.specs.Chance.{best, chance}
use Rattle.endings.specs.Length.{length_of}
use Rattle.endings.specs.Place.{place, places_of}
use Rattle.values.specs.Best.{best_value}
use Rattle.values.specs.Entry.{value_entry}
use Rattle.values.specs.Laws.{Reached, Entered, Younger}
use Rattle.tables.specs.Parts.{length_at, value_in}
use Rattle.tables.specs.Led.{facing, places_led_to}

-- the length that a table for n checkers has at a position
abbrev pub tabled_length : ℕ → List ℕ → Position → ℕ
tabled_length n lengths q = length_at (places_of n) lengths (place n q.own) (place n q.other)

module _ {V S R : Type 0} (k : Ghosts V S R) where
  -- the value that a table for n checkers has at a position
  abbrev pub tabled : ℕ → List R → Position → V
  tabled n rows q = value_in k (places_of n) rows (place n q.own) (place n q.other)

  -- the values are the defined ones at each ending to which p leads
  abbrev pub ValuesBelow : ℕ → Position → List R → Type 0
  ValuesBelow n p rows = (q : Position) → Reached p q → tabled n rows q ≡ value_entry k q

  -- and the lengths are
  pub record Below (n : ℕ) (p : Position) (lengths : List ℕ) (rows : List R) : Type 0 where
    pub long : (q : Position) → Reached p q → tabled_length n lengths q ≡ length_of q
    pub values : ValuesBelow n p rows

  -- length and value are the entry's of p, and within the reach the value holds the exact chance
  pub record EntryOf (p : Position) (r : ℕ × V) : Type 0 where
    pub length : r.0 ≡ length_of p
    pub value : r.1 ≡ value_entry k p
    pub holds : length_of p ≤ k.REACH → Entered k p r.1

  -- over parts that have the defined entries at the endings to which p leads, the entry of p is the defined one
  abbrev pub SoundEntry : ℕ → ℕ → List (List ℕ) → List ℕ → List R → ℕ × V → Type 0
  SoundEntry size b lists lengths rows r =
      (n : ℕ) (p : Position) → n ≤ 6 → EndingFor n p → size ≡ places_of n → b ≡ place n p.other → lists ≡ map (places_led_to n (facing p.own)) rolls → Below n p lengths rows → EntryOf p r

  -- and the best of a roll is the best over the defined entries, which holds the roll's exact best
  pub record SoundBest (n : ℕ) (p : Position) (r : TwoDice) (rows : List R) (v : V) : Type 0 where
    pub value : ValuesBelow n p rows → v ≡ best_value k (value_entry k) p r
    pub holds : ValuesBelow n p rows → length_of p ≤ k.REACH → Younger k p (λ m. best (36 ^ m) (chance m) p r) v
