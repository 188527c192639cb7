-- The 21 rolls and how often each comes.
use Rattle.std.specs.Prelude.{ℕ, cond, List, [], ◌∷◌, ◌==◌}

-- a roll: its two dice
abbrev pub TwoDice : Type 0
TwoDice = ℕ × ℕ

-- each once, the larger die first, in the order in which they are summed
unfoldable pub rolls : List TwoDice
rolls =
    (1, 1)
    ∷ (2, 1) ∷ (2, 2)
    ∷ (3, 1) ∷ (3, 2) ∷ (3, 3)
    ∷ (4, 1) ∷ (4, 2) ∷ (4, 3) ∷ (4, 4)
    ∷ (5, 1) ∷ (5, 2) ∷ (5, 3) ∷ (5, 4) ∷ (5, 5)
    ∷ (6, 1) ∷ (6, 2) ∷ (6, 3) ∷ (6, 4) ∷ (6, 5) ∷ (6, 6)
    ∷ []

-- how many of the 36 ordered rolls are this one
abbrev pub weight : TwoDice → ℕ
weight r = cond (r.0 == r.1) 1 2
