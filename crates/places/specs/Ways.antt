-- The place of a side, reckoned point by point.
use Rattle.std.specs.Prelude.{ℕ, zero, suc, ◌+◌, ◌-◌, List, [], ◌∷◌, length}
use Rattle.endings.specs.Place.{sides}

-- in how many ways at most n checkers stand on k points
unfoldable pub ways : ℕ → ℕ → ℕ
ways k n = length (sides k n)

-- how many ways come before these counts: those with fewer on the first point, and those with as many there that come before by the rest
abbrev pub rank : ℕ → ℕ → List ℕ → ℕ
rank zero n cs = 0
rank (suc k) n [] = 0
rank (suc k) n (c ∷ cs) = (ways (suc k) n - ways (suc k) (n - c)) + rank k (n - c) cs
