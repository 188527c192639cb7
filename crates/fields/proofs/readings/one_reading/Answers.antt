use Rattle.fields.proofs.Once.{one-moves, one_side, one_setting}
use Rattle.fields.proofs.readings.one_reading.Goals as goal

pub returns-clause-moves : goal.returns-clause-moves
returns-clause-moves c = one-moves

pub returns-clause-side : goal.returns-clause-side
returns-clause-side c = one_side

pub returns-clause-setting : goal.returns-clause-setting
returns-clause-setting c = one_setting
