-- Rolls, and the dice that they give.
use Rattle.std.specs.Prelude.{ℕ, ◌≤◌, cond, List, replicate, ◌==◌, slice_set}

abbrev pub Die : ℕ → Type 0
Die d = (1 ≤ d) × (d ≤ 6)

-- a roll is two dice
abbrev pub Roll : ℕ → ℕ → Type 0
Roll x y = Die x × Die y

-- how many dice there are of each number from 0 to 6: one of each die, and four where they are equal
abbrev pub rolled : ℕ → ℕ → List ℕ
rolled x y = cond (x == y) (slice_set (replicate 7 0) x 4) (slice_set (slice_set (replicate 7 0) x 1) y 1)
