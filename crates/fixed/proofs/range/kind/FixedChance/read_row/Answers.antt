use Rattle.std.proofs.Common.{sym}
use Rattle.fixed.specs.Kept.{row_is}
use Rattle.fixed.proofs.range.kind.FixedChance.read_row.Goals as goal

pub returns : goal.returns
returns c = sym (row_is c.args.from _)
