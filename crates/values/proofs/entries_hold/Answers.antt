use Rattle.values.proofs.Exact.{length-entry, length_from}
use Rattle.values.proofs.Judging.{judged, summed}
use Rattle.values.proofs.Entries.{after_alike, best_alike, sum_alike, within, won, lost, step, past, entered, others, narrow}
use Rattle.values.proofs.entries_hold.Goals as goal

pub returns : goal.returns
returns g c =
    let k = g.K.Chance in
    record {
      holds = entered k;
      narrow = narrow k;
      bests = λ p e o. judged k _ p e (others k p o);
      judged = judged k;
      summed = λ f p e o below. summed k f p e below o;
      after_alike = after_alike k;
      best_alike = best_alike k;
      sum_alike = sum_alike k;
      won = won k;
      lost = lost k;
      step = step k;
      past = past k;
      length = length-entry;
      length_from = length_from;
      within = within k;
    }
