use Rattle.board.specs.Position.{position}
use Rattle.listing.proofs.Collecting.{holding}
use Rattle.listing.proofs.collect.turns_of.Goals as goal

pub returns-in-Ok : goal.returns-in-Ok
returns-in-Ok c =
    let b = c.args.b.now in
    let shown = rw c.in_ok-turns-in-Ok.was at c.in-Ok.ensures in
    (shown.0, holding (position b) c.args.roll.0 c.args.roll.1 _ _ (record { long = b.long; complete = b.complete }) c.new.ensures.items shown.1)
