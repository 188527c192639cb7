use Rattle.turns.proofs.Faults.{exactly}
use Rattle.turns.proofs.check.check_turn.Goals as goal

pub returns-clause-exactly : goal.returns-clause-exactly
returns-clause-exactly c = exactly _ _ _ _ _ c.judged.ensures
