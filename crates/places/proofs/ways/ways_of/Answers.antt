use Rattle.std.proofs.Common.{◌∙◌, arith}
use Rattle.places.proofs.Table.{at_table}
use Rattle.places.proofs.ways.ways_of.Goals as goal

pub returns : goal.returns
returns c = let t = at_table c.args.k c.args.n c.requires.0 c.requires.1 in record { is = c.from.ensures ∙ t.0; most = omega (arith, c.from.ensures, t.1) }
