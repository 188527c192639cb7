use Rattle.std.proofs.Common.{rules, ◌≡◌}
use Rattle.folds.specs.Best.{best}
use Rattle.folds.proofs.Bests.{best_holds, best_age}
use Rattle.folds.proofs.best_of.Goals as goal

pub returns : goal.returns
returns g c =
    let k = g.K.Chance in
    let ys = c.args.others.now in
    let value : ◌≡◌ {A = g.row.K.Denot} c.fold.result (best k c.args.first ys) = search rules in
    record {
      value = value;
      holds = best_holds k c.args.first ys _ value;
      age = best_age k c.args.first ys _ value;
    }
