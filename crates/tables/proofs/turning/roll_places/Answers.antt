use Rattle.board.specs.Position.{position}
use Rattle.tables.proofs.Leading.{led}
use Rattle.tables.proofs.turning.roll_places.Goals as goal

pub returns : goal.returns
returns c =
    led c.args.n (position c.args.b.now) c.requires.size c.args.roll.0 c.args.roll.1 c.new.result c.in-Ok.places c.requires.home c.new.ensures.items c.in-Ok.ensures.1
