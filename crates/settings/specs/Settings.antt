-- A board with the player due.
use Rattle.std.specs.Prelude.{◌≡◌, ℕ, List}
use Rattle.board.specs.declared.player.Player.{Player}
use Rattle.board.specs.declared.player.Player.TheVariants.{White, Black}
use Rattle.board.specs.Position.{Position, position}
use Rattle.board.specs.Setup.{start_side, placed}
use Rattle.settings.specs.declared.setting.Setting.{Setting}

-- who is due, and what stands on the board from that player
abbrev pub Shows : Setting → Player × Position → Type 0
Shows s p = (s.due ≡ p.0) × (position s.board ≡ p.1)

-- a game opens on the start board; here White is due
abbrev pub opening : Player × Position
opening = (White, record { own = start_side; other = start_side })

-- White's and Black's counts on points 1 to 25, seen from the player due
abbrev pub arranged : Player → List ℕ → List ℕ → Player × Position
arranged White white black = (White, placed white black)
arranged Black white black = (Black, placed black white)

-- the side of a player, seen from the player due
abbrev pub seen_by : Player → Player → Position → List ℕ
seen_by White White p = p.own
seen_by White Black p = p.other
seen_by Black White p = p.other
seen_by Black Black p = p.own

abbrev pub side_of : Setting → Player → List ℕ
side_of s player = seen_by s.due player (position s.board)
