use Rattle.std.proofs.Common.{vec_items, sym, ◌∙◌, rules, tests}
use Rattle.std.proofs.lemmas.Iterator.{YieldsList-from_slice, YieldsList-from_zip}
use Rattle.std.proofs.lemmas.Iterator.Consumers.{fold_from_yields_List}
use Rattle.endings.specs.Rolls.{rolls, weight}
use Rattle.tables.specs.Parts.{best_place}
use Rattle.tables.proofs.Summing.{sum_zipped}
use Rattle.tables.proofs.entry.sum_of_rolls.Goals as goal

pub returns : goal.returns
returns g c =
    let k = g.K.Chance in
    let lists = vec_items c.args.turns.now.lists in
    fold_from_yields_List _ (λ s p. k.added s (weight p.0) (best_place k c.args.rows.size c.args.rows.entries.now c.args.b (vec_items p.1))) c.empty.result c.fold.result c.fold.ensures.ran
    (YieldsList-from_zip (YieldsList-from_slice rolls cc) (YieldsList-from_slice lists cc)) (λ a x b q e. search (rules, tests))
    ∙ rw c.empty.ensures (sym (sum_zipped k vec_items c.args.rows.size c.args.rows.entries.now c.args.b k.empty rolls lists))
