use Rattle.std.proofs.Common.{refl}
use Rattle.endings.specs.Rolls.{rolls}
use Rattle.tables.proofs.rolls.all_rolls.Goals as goal

pub returns : goal.returns
unfolding rolls
returns c = refl
