use Rattle.std.proofs.Common.{max, map, ◌∙◌, rules, tests}
use Rattle.std.proofs.lemmas.Iterator.{YieldsList-from_slice, YieldsList-from_map}
use Rattle.std.proofs.lemmas.Iterator.Consumers.{fold_from_yields_List}
use Rattle.tables.specs.Parts.{length_after}
use Rattle.tables.proofs.Reading.{greatest_by_fold}
use Rattle.tables.proofs.over.length_over.Goals as goal

pub returns : goal.returns
returns c =
    let f = length_after c.args.lengths.size c.args.lengths.entries.now c.args.b in
    fold_from_yields_List _ max 0 c.fold.result c.fold.ensures.ran
    (YieldsList-from_map _ f (YieldsList-from_slice c.args.places.now cc) c.map.ensures.closure (λ x b q k. search (rules, tests))) (λ a x b q e. search (rules, tests))
    ∙ greatest_by_fold (map f c.args.places.now)
