use Rattle.places.proofs.Finding.{Finding}
use Rattle.places.proofs.side.unranked.Given as goal

abbrev pub invariant-loop-p : goal.invariant-loop-p
invariant-loop-p l = Finding l.n l.place l.p l.left l.before l.side
