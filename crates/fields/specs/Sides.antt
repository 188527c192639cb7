-- The sides of a board and their text.
use Rattle.std.specs.Prelude.{◌≡◌, ℕ, ◌+◌, ◌<◌, cond, List, [], ◌∷◌, ◌++◌, map, length, Option, option_map, nat_lt}
use Rattle.std.specs.List.{AllByRecursion}
use Rattle.board.specs.declared.player.Player.{Player}
use Rattle.fields.specs.declared.sides.Sides.{Sides}
use Rattle.board.specs.Players.{letter}

-- a count is below sixteen
abbrev pub FineCount : ℕ → Type 0
FineCount d = d < 16

-- the bytes from `0` on, and from ten those from `a` on
abbrev pub hex : ℕ → ℕ
hex d = cond (nat_lt d 10) (48 + d) (87 + d)

-- a count alone
abbrev pub count_text : ℕ → List ℕ
count_text d = hex d ∷ []

-- a side has 25 counts, from point 1 to the bar
abbrev pub FineSide : List ℕ → Type 0
FineSide s = (length s ≡ 25) × AllByRecursion FineCount s

-- its counts one behind the other
abbrev pub side_text : List ℕ → List ℕ
side_text s = map hex s

-- White's side and Black's
abbrev pub FineSides : List ℕ × List ℕ → Type 0
FineSides x = FineSide x.0 × FineSide x.1

-- with a space between them
abbrev pub sides_text : List ℕ × List ℕ → List ℕ
sides_text x = side_text x.0 ++ (32 ∷ side_text x.1)

-- what an answer of the program stands for
abbrev pub sides_shown : Option Sides → Option (List ℕ × List ℕ)
sides_shown = option_map (λ s. (s.white, s.black))

-- a player, White's side and Black's
abbrev pub FineSetting : Player × List ℕ × List ℕ → Type 0
FineSetting x = FineSides (x.1, x.2)

-- the player's letter and the sides, each behind a space
abbrev pub setting_text : Player × List ℕ × List ℕ → List ℕ
setting_text x = 32 ∷ letter x.0 ∷ 32 ∷ sides_text (x.1, x.2)

-- what an answer of the program stands for
abbrev pub setting_shown : Option (Player × Sides) → Option (Player × List ℕ × List ℕ)
setting_shown = option_map (λ x. (x.0, x.1.white, x.1.black))
