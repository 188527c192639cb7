use Rattle.std.proofs.Common.{map, unwrap_or, sym, ap, ◌∙◌, rules, tests}
use Rattle.std.proofs.lemmas.Iterator.{YieldsList-from_slice, YieldsList-from_map}
use Rattle.tables.specs.Parts.{value_after}
use Rattle.tables.proofs.Reading.{best_or_lost}
use Rattle.tables.proofs.Reducing.{reduced}
use Rattle.tables.proofs.over.best_over.Goals as goal

pub returns : goal.returns
returns g c =
    let k = g.K.Chance in
    let f = value_after k c.args.rows.size c.args.rows.entries.now c.args.b in
    c.unwrap_or.ensures
    ∙ rw c.lost.ensures (ap (λ o. unwrap_or o k.lost) (reduced _ k.better _ (λ a x r q e. search (rules, tests)) c.map-values.result c.reduce.result c.reduce.ensures.ran (YieldsList-from_map _ f (YieldsList-from_slice c.args.places.now cc) c.map-values.ensures.closure (λ x b q e. search (rules, tests)))))
    ∙ sym (best_or_lost k (map f c.args.places.now))
