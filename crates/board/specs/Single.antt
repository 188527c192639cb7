-- Single moves: a start s and a die d. The target is s - d, or off the board where that is 0 or less.
use Rattle.std.specs.Prelude.{◌≡◌, ℕ, ◌-◌, ◌<◌, ◌≤◌, cond, List, ◌==◌, nat_lt}
use Rattle.board.specs.Side.{on, NoneAbove, shifted}
use Rattle.board.specs.Position.{Position}

pub record Legal (b : Position) (s d : ℕ) : Type 0 where
  pub die : (1 ≤ d) × (d ≤ 6)
  -- something of one's own stands on s, which is a point or the bar
  pub start : (1 ≤ s) × (s ≤ 25)
  pub has : 0 < on b.own s
  -- a checker on the bar goes first
  pub bar : 0 < on b.own 25 → s ≡ 25
  -- a point that is aimed at is not held: one checker of theirs may be there, two block it
  pub free : d < s → on b.other (25 - (s - d)) ≤ 1
  -- a checker is borne off with none above point 6
  pub home : s ≤ d → NoneAbove b.own 6
  -- and, with a die greater than the start, with none above the start
  pub far : s < d → NoneAbove b.own s

-- the other side after a checker came to own point t: a lone checker there goes to the bar
abbrev pub hit : List ℕ → ℕ → List ℕ
hit other t = cond (on other (25 - t) == 1) (shifted other (25 - t) 25) other

-- the position after a move; a checker that leaves the board goes to place 0
abbrev pub moved : Position → ℕ → ℕ → Position
moved b s d =
    record {
      own = shifted b.own s (s - d);
      other = cond (nat_lt d s) (hit b.other (s - d)) b.other;
    }
