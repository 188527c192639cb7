use Rattle.std.proofs.Common.{◌≡◌}
use Rattle.std.specs.Slice.Iter.{chunks_rest, chunks_size}
use Rattle.board.specs.Moves.{moves_of}
use Rattle.fields.proofs.Turns.{Ahead}
use Rattle.fields.proofs.moves.read_moves.Given as goal

abbrev pub invariant-loop-field : goal.invariant-loop-field
invariant-loop-field l =
    (goal.iterator-loop-field).can_next l.field-iterator ×
    (goal.iterator-loop-field).is_finite l.field-iterator ×
    (chunks_size l.field-iterator ≡ 4) ×
    Ahead l.bytes (moves_of l.moves) (chunks_rest l.field-iterator)
