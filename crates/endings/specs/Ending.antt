-- Endings: both sides are home, and neither is empty.
use Rattle.std.specs.Prelude.{◌≡◌, ℕ, ◌-◌, ◌<◌, ◌≤◌, List, length}
use Rattle.board.specs.Side.{on, checkers, Complete, NoneAbove}
use Rattle.board.specs.Position.{Position}

-- a side with all its checkers on points 1 to 6 or borne off
pub record Home (side : List ℕ) : Type 0 where
  pub long : length side ≡ 26
  pub complete : Complete side
  pub none : NoneAbove side 6

-- how many checkers of a side are not borne off
abbrev pub left : List ℕ → ℕ
left side = checkers - on side 0

-- a home side with at most n checkers not borne off
pub record HomeFor (n : ℕ) (side : List ℕ) : Type 0 where
  pub home : Home side
  pub few : left side ≤ n

-- both sides are home, and each has a checker that is not borne off
pub record Ending (p : Position) : Type 0 where
  pub own : Home p.own
  pub other : Home p.other
  pub mine : on p.own 0 < checkers
  pub yours : on p.other 0 < checkers

-- an ending with at most n checkers on each side
pub record EndingFor (n : ℕ) (p : Position) : Type 0 where
  pub ending : Ending p
  pub own : left p.own ≤ n
  pub other : left p.other ≤ n
