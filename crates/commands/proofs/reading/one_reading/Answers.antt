use Rattle.commands.proofs.Apart.{apart}
use Rattle.commands.proofs.Nothing.{nothing}
use Rattle.commands.proofs.reading.one_reading.Goals as goal

pub returns : goal.returns
returns c = record { one = apart; nothing = nothing }
