use Rattle.places.proofs.Both.{inverse}
use Rattle.places.proofs.side.inverse_stands.Goals as goal

pub returns : goal.returns
returns c = inverse
