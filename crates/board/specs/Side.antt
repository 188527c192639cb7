-- A side: 26 counts of its fifteen checkers. Place 0 counts those that are not on the board, places 1 to 24 those on the points, place 25 those on the bar.
use Rattle.std.specs.Prelude.{◌≡◌, ℕ, ◌+◌, ◌-◌, ◌<◌, ◌≤◌, List, ◌∷◌, sum, slice_index, slice_set}

-- how many checkers there are of a side, on the board and off it
abbrev pub checkers : ℕ
checkers = 15

-- how many checkers of the side stand on the place p
abbrev pub on : List ℕ → ℕ → ℕ
on side p = slice_index side p

-- how many a side has borne off in a game with n checkers: n less those still on the board
abbrev pub borne_off : ℕ → List ℕ → ℕ
borne_off n side = n - (checkers - on side 0)

-- no checker is missing
abbrev pub Complete : List ℕ → Type 0
Complete side = sum side ≡ checkers

-- the two sides share no point; what one calls p is 25 - p to the other, and the bar is no point
abbrev pub Apart : List ℕ → List ℕ → Type 0
Apart own other = (p : ℕ) → (1 ≤ p) × (p ≤ 24) → 0 < on own p → on other (25 - p) ≡ 0

-- no checker stands above the place p
abbrev pub NoneAbove : List ℕ → ℕ → Type 0
NoneAbove side p = (q : ℕ) → p < q → q ≤ 25 → on side q ≡ 0

-- the counts on points 1 to 25 with the borne-off number in front
abbrev pub counts_with_off : List ℕ → List ℕ
counts_with_off counts = (checkers - sum counts) ∷ counts

-- one less on the place s
abbrev pub less : List ℕ → ℕ → List ℕ
less side s = slice_set side s (on side s - 1)

-- the side after one checker goes from the place s to the place t
abbrev pub shifted : List ℕ → ℕ → ℕ → List ℕ
shifted side s t = slice_set (less side s) t (on (less side s) t + 1)
