use Rattle.std.proofs.Common.{◌≤◌}
use Rattle.board.specs.Position.{position}
use Rattle.turns.proofs.Longest.{SoFar}
use Rattle.turns.proofs.most.+most.Given as goal

abbrev pub decreases-most : goal.decreases-most
decreases-most l = l.dice.now.count

abbrev pub invariant-loop-d : goal.invariant-loop-d
invariant-loop-d l = SoFar l.d 1 (position l.b) l.dice.left l.best × (l.best ≤ l.dice.count)

abbrev pub invariant-loop-s : goal.invariant-loop-s
invariant-loop-s l = SoFar l.d l.s (position l.b) l.dice.left l.best × (l.best ≤ l.dice.count)
