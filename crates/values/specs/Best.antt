-- Values of a kind after a turn, of a roll and over all rolls, from the values that others have, then to roll.
use Rattle.std.specs.Prelude.{cond, List, [], ◌∷◌, map, fold}
use Rattle.board.specs.Position.{Position, swapped}
use Rattle.turns.specs.Runs.{Move, played}
use Rattle.listing.specs.Order.{off, listed}
use Rattle.chance.specs.declared.kind.Chance.{Ghosts}
use Rattle.endings.specs.Rolls.{TwoDice, rolls, weight}

module _ {V S R : Type 0} (k : Ghosts V S R) where
  -- what the roller has with q left: won with the last checker off, else the turned value of the other, then to roll
  abbrev pub left_value : (Position → V) → Position → V
  left_value others q =
      let rest = k.turned (others (swapped q)) in
      cond (off q) k.won rest

  -- what the roller has after a turn
  abbrev pub after_value : (Position → V) → Position → List Move → V
  after_value others p t = left_value others (played p t)

  -- the first, bettered by each of the others in turn
  abbrev pub best_from_first : List V → V
  best_from_first [] = k.lost
  best_from_first (v ∷ vs) = fold k.better v vs

  -- the best of a roll, over its allowed turns in listing order
  abbrev pub best_value : (Position → V) → Position → TwoDice → V
  best_value others p r = best_from_first (map (after_value others p) (listed p r.0 r.1))

  -- the best of each of the 21 rolls in their order, added by the roll's weight to the empty sum
  unfoldable pub sum_value : (Position → V) → Position → S
  sum_value others p = fold (λ s r. k.added s (weight r) (best_value others p r)) k.empty rolls
