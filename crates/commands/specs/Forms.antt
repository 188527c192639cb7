-- The lines that are read, and their text without the line's end.
use Rattle.std.specs.Prelude.{ℕ, List, [], ◌∷◌, Option, option_map}
use Rattle.board.specs.declared.player.Player.{Player}
use Rattle.board.specs.Moves.{moves_of}
use Rattle.fields.specs.Digits.{FineDice, dice_text}
use Rattle.fields.specs.Sides.{FineSetting, setting_text}
use Rattle.commands.specs.declared.command.Command.{Command}
use Rattle.commands.specs.declared.command.Command.TheVariants as asked
use Rattle.commands.specs.Plays.{FinePlay, play_text}

-- a set board, a roll to list, a turn to play, a comment with the bytes behind its mark, an empty line
pub data Form : Type 0 where
  setting : Player → List ℕ → List ℕ → Form
  listing : ℕ × ℕ → Form
  play : ℕ × ℕ → List (ℕ × ℕ) → Form
  comment : List ℕ → Form
  blank : Form

-- each field in its range
abbrev pub Fine : Form → Type 0
Fine (setting p w b) = FineSetting (p, w, b)
Fine (listing roll) = FineDice roll
Fine (play roll ms) = FinePlay (roll, ms)
Fine (comment rest) = Unit {0}
Fine blank = Unit {0}

-- the letter `S`, `L`, `P` or the mark `#`, and the fields
abbrev pub text : Form → List ℕ
text (setting p w b) = 83 ∷ setting_text (p, w, b)
text (listing roll) = 76 ∷ dice_text roll
text (play roll ms) = 80 ∷ play_text (roll, ms)
text (comment rest) = 35 ∷ rest
text blank = []

-- a line that asks for nothing is empty, or a comment whose mark is the first byte
abbrev pub silent : List ℕ → Form
silent [] = blank
silent (b ∷ rest) = comment rest

-- what a command, read from the bytes, stands for
abbrev pub form : List ℕ → Command → Form
form bytes (asked.Set p s) = setting p s.white s.black
form bytes (asked.List roll) = listing roll
form bytes (asked.Play roll ms) = play roll (moves_of ms)
form bytes asked.Nothing = silent bytes

-- the same of an answer
abbrev pub form_of : List ℕ → Option Command → Option Form
form_of bytes = option_map (form bytes)
