use Rattle.std.proofs.Common.{sym}
use Rattle.exact.specs.Kept.{row_is}
use Rattle.exact.proofs.number.kind.ExactChance.read_row.Goals as goal

pub returns : goal.returns
returns c = sym (row_is c.args.from _)
