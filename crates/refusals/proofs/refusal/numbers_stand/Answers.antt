use Rattle.refusals.proofs.Apart.{closed}
use Rattle.refusals.proofs.refusal.numbers_stand.Goals as goal

pub returns : goal.returns
returns c = closed
