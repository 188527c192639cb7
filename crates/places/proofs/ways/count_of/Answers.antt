use Rattle.std.proofs.Common.{◌∙◌, ap, arith}
use Rattle.places.specs.Ways.{ways}
use Rattle.places.proofs.Table.{all_ways}
use Rattle.places.proofs.ways.count_of.Goals as goal

pub returns : goal.returns
returns c = ((omega arith, omega arith), c.ways_of.ensures.is ∙ ap (ways 6) c.from.ensures ∙ all_ways c.args.n)
