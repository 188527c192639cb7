use Rattle.std.proofs.Common.{◌≡◌, max, map, vec_items, ap, ◌∙◌, arith, rules, tests}
use Rattle.std.proofs.lemmas.Iterator.{YieldsList-from_slice, YieldsList-from_map}
use Rattle.std.proofs.lemmas.Iterator.Consumers.{fold_from_yields_List}
use Rattle.listing.specs.Order.{greatest}
use Rattle.tables.specs.Moving.{place_lists}
use Rattle.tables.specs.Parts.{most_length}
use Rattle.tables.specs.Sums.{entry_length}
use Rattle.tables.proofs.Reading.{greatest_by_fold}
use Rattle.tables.proofs.Visiting.{map_twice}
use Rattle.tables.proofs.entry.length_of.Goals as goal

pub returns : goal.returns
unfolding entry_length
returns c =
    let f = most_length c.args.lengths.size c.args.lengths.entries.now c.args.b in
    let lists = vec_items c.args.turns.now.lists in
    let most : c.fold.result ≡ greatest (map f (place_lists c.args.turns.now)) =
    fold_from_yields_List _ max 0 c.fold.result c.fold.ensures.ran
    (YieldsList-from_map _ (λ v. f (vec_items v)) (YieldsList-from_slice lists cc) c.map.ensures.closure (λ x b q k. search (rules, tests))) (λ a x b q e. search (rules, tests))
    ∙ greatest_by_fold (map (λ v. f (vec_items v)) lists)
    ∙ ap greatest (map_twice f vec_items lists)
    in
    omega (arith, most, c.saturating_add.ensures)
