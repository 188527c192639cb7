use Rattle.std.proofs.Common.{◌≡◌}
use Rattle.board.specs.Position.{position}
use Rattle.turns.specs.Roll.{rolled}
use Rattle.listing.specs.Order.{turns, listed}
use Rattle.listing.specs.Laws.{Sound}
use Rattle.listing.proofs.Whole.{listing}
use Rattle.listing.proofs.Some.{the_listing}
use Rattle.listing.proofs.visit.visit_turns.Goals as goal

pub returns-in-Ok : goal.returns-in-Ok
returns-in-Ok g c =
    let b = position c.args.b.now in
    let x = c.args.roll.0 in
    let y = c.args.roll.1 in
    let roll = c.in-Ok.ensures in
    let sound : Sound b = record { long = c.args.b.now.long; complete = c.args.b.now.complete } in
    let most = rw roll.1 at c.most-need.ensures.most in
    let lists = listing b x y c.most-need.result c.due_die-due.result sound most c.due_die-due.ensures in
    let same : turns c.due_die-due.result c.most-need.result b (rolled x y) ≡ listed b x y = the_listing b x y _ sound lists in
    (roll.0, rw (c.empty.ensures, roll.1, same) at c.visit_all.ensures)
