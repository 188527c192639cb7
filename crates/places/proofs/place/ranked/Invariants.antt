use Rattle.places.proofs.Ranking.{Ranking}
use Rattle.places.proofs.place.ranked.Given as goal

abbrev pub invariant-loop-p : goal.invariant-loop-p
invariant-loop-p l = Ranking l.n l.side l.p l.left l.place
