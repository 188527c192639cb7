use Rattle.board.specs.Position.{position}
use Rattle.turns.proofs.Walk.{Onward}
use Rattle.turns.proofs.check.walk.Given as goal

abbrev pub invariant-loop-i : goal.invariant-loop-i
invariant-loop-i l = Onward (position l.b) l.dice.left l.turn l.i (position l.board) l.left.left
