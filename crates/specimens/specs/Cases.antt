-- What a specimen can say.
use Rattle.std.specs.Prelude.{ℕ, ◌-◌, List, replicate, slice_set}
use Rattle.refusals.specs.declared.refusal.Refusal.{Refusal}
use Rattle.board.specs.Position.{Position}
use Rattle.turns.specs.Runs.{Move}

-- so many checkers on one point, and no others
abbrev pub only : ℕ → ℕ → List ℕ
only n p = slice_set (replicate 25 0) (p - 1) n

-- a side's counts with so many on one point
abbrev pub also : ℕ → ℕ → List ℕ → List ℕ
also n p counts = slice_set counts (p - 1) n

pub data Verdict : Type 0 where
  allowed : Verdict
  refused : Refusal → Verdict

pub data Specimen : Type 0 where
  -- on a position, with a roll, the turn has this verdict
  turn : Position → ℕ → ℕ → List Move → Verdict → Specimen
  -- in an ending the roller's exact chance is u / v
  winning : Position → ℕ → ℕ → Specimen
  -- an ending can last so many rolls
  lasting : Position → ℕ → Specimen
  -- in an ending, with a roll, the turn leaves these counts on points 1 to 25, and its exact loss is u / v
  losing : Position → ℕ → ℕ → List Move → List ℕ → ℕ → ℕ → Specimen
