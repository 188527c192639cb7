-- The two players.
use Rattle.std.specs.Prelude.{ℕ, List, [], ◌∷◌}
use Rattle.board.specs.declared.player.Player.{Player}
use Rattle.board.specs.declared.player.Player.TheVariants.{White, Black}

abbrev pub opponent : Player → Player
opponent White = Black
opponent Black = White

-- `W` for White, `B` for Black
abbrev pub letter : Player → ℕ
letter White = 87
letter Black = 66

-- the letter alone
abbrev pub letter_text : Player → List ℕ
letter_text p = letter p ∷ []
