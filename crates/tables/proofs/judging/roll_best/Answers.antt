use Rattle.std.proofs.Common.{List, ap, ◌∙◌}
use Rattle.refusals.specs.declared.refusal.Refusal.{Refusal}
use Rattle.board.specs.Position.{position}
use Rattle.turns.specs.Runs.{Move, played}
use Rattle.listing.specs.Listing.{In}
use Rattle.listing.specs.Order.{listed}
use Rattle.listing.proofs.Listed.{listed_is}
use Rattle.endings.specs.Ending.{HomeFor}
use Rattle.endings.proofs.Lengths.{sound}
use Rattle.endings.proofs.Falls.{turn_for}
use Rattle.endings.specs.Place.{place, places_of}
use Rattle.values.specs.Best.{best_from_first}
use Rattle.tables.specs.declared.judging.Best.{Best}
use Rattle.tables.specs.Parts.{value_after, best_place}
use Rattle.tables.specs.Led.{places_led_to}
use Rattle.tables.specs.Judging.{RollBest}
use Rattle.tables.proofs.Entering.{sound-best}
use Rattle.tables.proofs.Visiting.{best-shown, answered, map_twice}
use Rattle.tables.proofs.judging.roll_best.Goals as goal

pub returns : goal.returns
returns g c =
    let k = g.K.Chance in
    let p = position c.args.b.now in
    let r = c.args.roll in
    let roll = c.in_ok-dice_of.ensures.0 in
    let size = rw c.in_ok-size.ensures.ok_part at c.count_of.ensures in
    let face = rw c.in_ok-other.ensures.ok_part at c.ending_places.ensures in
    let home : (t : List Move) → In t (listed p r.0 r.1) → HomeFor c.args.n (played p t).own =
    λ t i. turn_for c.args.n p r.0 r.1 t face.0 roll ((listed_is p r.0 r.1 (sound p face.0.ending)).only t i)
    in
    let judged : Best g.row.K.Denot g.row.K-Sum.Denot g.row.K-Row.Denot = record { n = c.args.n; rows = record { size = c.in_ok-size.size; entries = c.args.rows }; other = c.in_ok-other.other } in
    let shown = rw (answered Refusal c.visit_turns.result c.in_ok-best.best _ c.in_ok-best.ensures.cases c.in_ok-best.ensures.variant) at c.visit_turns.ensures in
    let best = best-shown k p judged size.0 c.in_ok-best.best (listed p r.0 r.1) home shown.1 in
    let answer : RollBest k c.args.n p r c.args.rows.now c.unwrap_or.result = record {
      roll = roll;
      size = size.0;
      square = (let e = c.square.ensures.0 c.if-not-square.false in rw size.1 at e);
      ending = face.0;
      best = c.unwrap_or.ensures
          ∙ rw c.lost.ensures best
          ∙ ap (best_from_first k) (map_twice (value_after k c.in_ok-size.size c.args.rows.now c.in_ok-other.other) (λ t. place c.args.n (played p t).own) (listed p r.0 r.1))
          ∙ ap (λ s. best_place k s c.args.rows.now c.in_ok-other.other (places_led_to c.args.n p r)) size.1
          ∙ ap (λ o. best_place k (places_of c.args.n) c.args.rows.now o (places_led_to c.args.n p r)) face.2;
    } in
    record { answer = answer; sound = sound-best k c.args.n p r c.args.rows.now c.unwrap_or.result face.0 roll answer.best }
