use Rattle.std.proofs.Common.{◌-◌}
use Rattle.board.specs.Position.{position}
use Rattle.board.specs.Moves.{moves_of}
use Rattle.listing.proofs.Fits.{by_start, by_die}
use Rattle.listing.proofs.Showing.{Leads}
use Rattle.listing.proofs.visit.+visit_all.Given as goal

abbrev pub decreases-visit_all : goal.decreases-visit_all
decreases-visit_all g l = l.need

abbrev pub invariant-loop-s : goal.invariant-loop-s
invariant-loop-s g l =
    Leads (g.V.Visit.step l.visitor) (moves_of l.made) (position l.b)
    l.sum (by_start l.due (l.need - 1) (position l.b) l.dice.left l.d (l.s - 1))
    l.initial.sum (by_start l.due (l.need - 1) (position l.b) l.dice.left l.d 25)

abbrev pub invariant-loop-d : goal.invariant-loop-d
invariant-loop-d g l =
    Leads (g.V.Visit.step l.visitor) (moves_of l.made) (position l.b)
    l.sum (by_die l.due (l.need - 1) (position l.b) l.dice.left (l.d - 1))
    l.initial.sum (by_die l.due (l.need - 1) (position l.b) l.dice.left 6)
