-- The allowed turns of a roll as a list. Before each move the dice that are left are tried from the largest down, and with each the starts from the highest down.
use Rattle.std.specs.Prelude.{ℕ, zero, suc, ◌+◌, ◌-◌, max, Bool, true, cond, not, ◌&&◌, ◌||◌, List, [], ◌∷◌, ◌++◌, map, length, drop, sum, Some, None, Option, ◌==◌, nat_le, nat_lt}
use Rattle.board.specs.Side.{on, checkers, less}
use Rattle.board.specs.Position.{Position}
use Rattle.board.specs.Single.{moved}
use Rattle.turns.specs.Roll.{rolled}
use Rattle.turns.specs.Runs.{Move}

-- a side has no checker above the place p
abbrev pub clear : List ℕ → ℕ → Bool
clear side p = sum (drop (p + 1) side) == 0

-- the test of a legal move
abbrev pub may : Position → ℕ → ℕ → Bool
may b s d =
    let bar = on b.own 25 == 0 || s == 25 in
    let free = nat_le (on b.other (25 - (s - d))) 1 in
    let home = let far = clear b.own s in clear b.own 6 && (s == d || far) in
    let rest = cond (nat_lt d s) free home in
    nat_le 1 d && nat_le d 6 && nat_le 1 s && nat_le s 25 && nat_lt 0 (on b.own s) && bar && rest

-- the side's last checker is off
abbrev pub off : Position → Bool
off b = on b.own 0 == checkers

-- what f gives at n, n - 1 and so on down to 1
unfoldable pub down : {X : Type 0} → (ℕ → List X) → ℕ → List X
down f zero = []
down f (suc n) = f (suc n) ++ down f n

abbrev pub greatest : List ℕ → ℕ
greatest [] = 0
greatest (x ∷ xs) = max x (greatest xs)

-- a move uses the die that is due, if one is, or bears off the last checker
abbrev pub meets : Option ℕ → Position → ℕ → Bool
meets None after d = true
meets (Some due) after d = d == due || off after

-- a move that a turn may begin with: a die is left, the move is legal, and it meets the die that is due
abbrev pub fits : Option ℕ → Position → List ℕ → ℕ → ℕ → Bool
fits due b dice s d =
    let m = may b s d in
    let u = meets due (moved b s d) d in
    nat_lt 0 (on dice d) && m && u

-- the turns of n moves, and those that bear off the last checker before
unfoldable pub turns : Option ℕ → ℕ → Position → List ℕ → List (List Move)
turns due zero b dice = [] ∷ []
turns due (suc n) b dice =
    let more = down (λ d. down (λ s. let r = map (λ t. (s, d) ∷ t) (turns due n (moved b s d) (less dice d)) in cond (fits due b dice s d) r []) 25) 6 in
    cond (off b) ([] ∷ []) more

-- the most dice, n at most, that a run can use
unfoldable pub longest : ℕ → Position → List ℕ → ℕ
longest zero b dice = 0
longest (suc n) b dice =
    greatest (down (λ d. down (λ s. let r = suc (longest n (moved b s d) (less dice d)) ∷ [] in cond (fits None b dice s d) r []) 25) 6)

-- the starts from which a die can be played
abbrev pub starts : Position → ℕ → List ℕ
starts b d = down (λ s. cond (may b s d) (s ∷ []) []) 25

-- the die that is due where a run uses n dice at most: the larger, if that is one die and it could be either; else none
unfoldable pub die_due : Position → ℕ → ℕ → ℕ → Option ℕ
die_due b x y n = cond (n == 1 && not (x == y) && nat_lt 0 (length (starts b x)) && nat_lt 0 (length (starts b y))) (Some (max x y)) None

-- the listing of the roll of x and y
unfoldable pub listed : Position → ℕ → ℕ → List (List Move)
listed b x y =
    let dice = rolled x y in
    let n = longest (sum dice) b dice in
    turns (die_due b x y n) n b dice
