use Rattle.specimens.proofs.Shown.{shown}
use Rattle.specimens.proofs.specimens_stand.Goals as goal

pub returns : goal.returns
returns c = shown
