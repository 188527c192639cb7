-- Every specimen stands.
use Rattle.std.specs.List.{AllByRecursion}
use Rattle.specimens.specs.Specimens.{Stands, specimens}
use Rattle.specimens.proofs.Turns.{six_allowed, five-refused, none_refused}
use Rattle.specimens.proofs.Endings.{six_wins, six-length, five_wins, four_loses, four-length}

pub shown : AllByRecursion Stands specimens
shown = (six_allowed, (five-refused, (none_refused, (six_wins, (six-length, (five_wins, (four_loses, (four-length, tt))))))))
