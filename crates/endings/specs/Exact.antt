-- The exact chance, with no count of rolls to choose, and the exact loss of a turn.
use Rattle.std.specs.Prelude.{ℕ, ◌-◌, ◌*◌, ◌^◌, List}
use Rattle.board.specs.Position.{Position}
use Rattle.turns.specs.Runs.{Move}
use Rattle.endings.specs.Rolls.{TwoDice}
use Rattle.endings.specs.Chance.{after, best, chance}
use Rattle.endings.specs.Length.{length_of}

-- the roller's chance, of 36 ^ n, where n is at least the length: a whole number over 36 ^ length, brought to 36 ^ n
unfoldable pub exact : ℕ → Position → ℕ
exact n p = 36 ^ (n - length_of p) * chance (length_of p) p

-- what a turn of a roll falls short of the best, of 36 ^ n, where n + 1 is at least the length
abbrev pub exact_loss : ℕ → Position → TwoDice → List Move → ℕ
exact_loss n p r t = best (36 ^ n) (exact n) p r - after (36 ^ n) (exact n) p t
