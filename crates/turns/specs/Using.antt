-- Using a die.
use Rattle.std.specs.Prelude.{◌≡◌, ℕ, ◌+◌, ◌<◌}
use Rattle.board.specs.Side.{on, less}
use Rattle.turns.specs.declared.dice.Dice.{Dice}

-- the rest of the dice once one of the number d is used
pub record Without (dice : Dice) (d : ℕ) (rest : Dice) : Type 0 where
  pub has : 0 < on dice.left d
  pub left : rest.left ≡ less dice.left d
  pub fewer : rest.count + 1 ≡ dice.count
