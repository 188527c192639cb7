use Rattle.exact.specs.Kept.{is_closed}
use Rattle.exact.proofs.number.kind.mean.Goals as goal

pub returns : goal.returns
returns c = is_closed c.args.sum.now c.requires _
