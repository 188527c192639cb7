-- The place of a side: the number of sides before it.
use Rattle.std.specs.Prelude.{ℕ, zero, suc, ◌-◌, Bool, false, ◌&&◌, ◌||◌, List, [], ◌∷◌, ◌++◌, map, length, count_by, ◌==◌, nat_lt}
use Rattle.board.specs.Side.{on}

-- the counts on point k, then k - 1 and so on down to 1
abbrev pub counts_from : ℕ → List ℕ → List ℕ
counts_from zero side = []
counts_from (suc k) side = on side (suc k) ∷ counts_from k side

-- the six counts, that on point 6 first and that on 1 last
abbrev pub counts : List ℕ → List ℕ
counts side = counts_from 6 side

-- one comes before another by the first count, then the next, smaller first
abbrev pub before : List ℕ → List ℕ → Bool
before [] ds = false
before (c ∷ cs) [] = false
before (c ∷ cs) (d ∷ ds) = let rest = c == d && before cs ds in nat_lt c d || rest

-- what f gives at 0, 1 and so on to n
abbrev pub upto : {X : Type 0} → (ℕ → List X) → ℕ → List X
upto f zero = f 0
upto f (suc n) = upto f n ++ f (suc n)

-- the counts on k points of all sides with at most n checkers there
unfoldable pub sides : ℕ → ℕ → List (List ℕ)
sides zero n = [] ∷ []
sides (suc k) n = upto (λ c. map (λ cs. c ∷ cs) (sides k (n - c))) n

-- how many sides with at most n checkers come before the side
unfoldable pub place : ℕ → List ℕ → ℕ
place n side = count_by (λ cs. before cs (counts side)) (sides 6 n)

-- how many sides with at most n checkers there are
unfoldable pub places_of : ℕ → ℕ
places_of n = length (sides 6 n)
