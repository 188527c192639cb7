use Rattle.replies.proofs.replying.played.Goals as goal

pub returns-in-Err : goal.returns-in-Err
returns-in-Err c = let e = c.in-Err.ensures in rw c.moves.ensures at e
