use Rattle.std.proofs.Common.{◌≡◌, ℕ, arith}
use Rattle.std.proofs.lemmas.Bool.{le-leb, lt-leb}
use Rattle.tables.specs.Moving.{place_lists}
use Rattle.tables.specs.Sums.{entry_length, entry_value}
use Rattle.tables.proofs.Entering.{sound-entry}
use Rattle.tables.proofs.entry.entry.Goals as goal

pub returns-then-from-REACH : goal.returns-then-from-REACH
unfolding entry_value
returns-then-from-REACH g c =
    let lists = place_lists c.args.turns.now in
    let n = entry_length c.args.size c.args.lengths.now c.args.b lists in
    let past = lt-leb n g.K.Chance.REACH (omega (arith, c.length_of-length.ensures, c.from.ensures, c.if-from-REACH.true)) in
    let value : ◌≡◌ {A = ℕ × g.row.K.Denot} (c.length_of-length.result, c.lost.result) (n, entry_value g.K.Chance c.args.size c.args.rows.now c.args.b n lists) =
    rw (c.length_of-length.ensures, c.lost.ensures, past)
    in
    record { value = value; sound = sound-entry g.K.Chance c.args.size c.args.b lists c.args.lengths.now c.args.rows.now _ value }

pub returns : goal.returns
unfolding entry_value
returns g c =
    let lists = place_lists c.args.turns.now in
    let n = entry_length c.args.size c.args.lengths.now c.args.b lists in
    let within = le-leb n g.K.Chance.REACH (omega (arith, c.length_of-length.ensures, c.from.ensures, c.if-from-REACH.false)) in
    let value : ◌≡◌ {A = ℕ × g.row.K.Denot} (c.length_of-length.result, c.mean_of_rolls.result) (n, entry_value g.K.Chance c.args.size c.args.rows.now c.args.b n lists) =
    rw (c.length_of-length.ensures, c.mean_of_rolls.ensures, within)
    in
    record { value = value; sound = sound-entry g.K.Chance c.args.size c.args.b lists c.args.lengths.now c.args.rows.now _ value }
