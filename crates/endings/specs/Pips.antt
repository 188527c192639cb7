-- Pips: how far checkers have to go.
use Rattle.std.specs.Prelude.{ℕ, suc, ◌+◌, ◌*◌, List, [], ◌∷◌}
use Rattle.board.specs.Position.{Position}

-- a checker on place k has k pips to go, one on the next place k + 1, and so on
abbrev pub pips_from : ℕ → List ℕ → ℕ
pips_from k [] = 0
pips_from k (x ∷ xs) = k * x + pips_from (suc k) xs

-- how far a side has to go
abbrev pub pips : List ℕ → ℕ
pips side = pips_from 0 side

-- how far both sides have to go
abbrev pub both_pips : Position → ℕ
both_pips p = pips p.own + pips p.other
