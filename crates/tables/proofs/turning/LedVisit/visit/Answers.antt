use Rattle.std.proofs.Common.{arith}
use Rattle.tables.proofs.Leading.{place_fits}
use Rattle.tables.proofs.turning.LedVisit.visit.Goals as goal

pub overflow_cast-place : goal.overflow_cast-place
overflow_cast-place c =
    let found = c.in-Some.ensures in
    omega (arith, found, place_fits c.args.self.now.n _ found.0 found.1)
