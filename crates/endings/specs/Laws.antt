-- What holds of exact chances and lengths.
use Rattle.std.specs.Prelude.{◌≡◌, ℕ, suc, ◌*◌, ◌^◌, ◌<◌, ◌≤◌, ◌⊎◌, List, length, sum_by, ◌≢◌}
use Rattle.board.specs.Side.{on, checkers, NoneAbove}
use Rattle.board.specs.Position.{Position, swapped}
use Rattle.board.specs.Single.{Legal, moved}
use Rattle.turns.specs.Roll.{Die, Roll}
use Rattle.turns.specs.Runs.{Move, played}
use Rattle.turns.specs.Turns.{Allowed}
use Rattle.listing.specs.Order.{listed}
use Rattle.listing.specs.Listing.{In}
use Rattle.listing.specs.Laws.{Sound}
use Rattle.endings.specs.Ending.{Ending, EndingFor}
use Rattle.endings.specs.Pips.{both_pips}
use Rattle.endings.specs.Rolls.{rolls, weight}
use Rattle.endings.specs.Chance.{best, chance, Best}
use Rattle.endings.specs.Length.{length_of, MostAfter}
use Rattle.endings.specs.Exact.{exact, exact_loss}

pub record Laws : Type 0 where
  -- the rolls are 36 in all
  pub thirty_six : sum_by weight rolls ≡ 36
  -- any two dice are one of them in one order, and either order allows the same turns
  pub every_roll : (x y : ℕ) → Roll x y → In (x, y) rolls ⊎ In (y, x) rolls
  pub either_way : (p : Position) (x y : ℕ) → Sound p → listed p x y ≡ listed p y x
  -- the best of a roll is the greatest after an allowed turn, and one reaches it
  pub bests : (whole : ℕ) (others : Position → ℕ) (p : Position) (x y : ℕ) → Sound p → Roll x y → Best whole others p (x, y) (best whole others p (x, y))
  -- a chance is at most 1
  pub at_most : (n : ℕ) (p : Position) → chance n p ≤ 36 ^ n
  -- in an ending a move hits nothing
  pub nothing_hit : (p : Position) (s d : ℕ) → Ending p → Legal p s d → (moved p s d).other ≡ p.other
  -- and nothing blocks it: any checker goes by any die, but by a die greater than its point only with none above it
  pub nothing_blocked : (p : Position) (s d : ℕ) → Ending p → (1 ≤ s) × (s ≤ 25) → 0 < on p.own s → Die d → (s < d → NoneAbove p.own s) → Legal p s d
  -- there a move is made with any roll
  pub moves : (p : Position) (x y : ℕ) (t : List Move) → Ending p → Roll x y → Allowed p x y t → 0 < length t
  -- a turn leads to an empty side, or to an ending of the other player with fewer pips
  pub leads : (p : Position) (x y : ℕ) (t : List Move) → Ending p → Roll x y → Allowed p x y t → (on (played p t).own 0 ≢ checkers) → Ending (swapped (played p t)) × (both_pips (swapped (played p t)) < both_pips p)
  -- there, too, each side has at most n checkers where it had before
  pub stays : (n : ℕ) (p : Position) (x y : ℕ) (t : List Move) → EndingFor n p → Roll x y → Allowed p x y t → (on (played p t).own 0 ≢ checkers) → EndingFor n (swapped (played p t))
  -- neither the allowed turns nor where they lead the own side rest on the other side
  pub alike : (p q : Position) (x y : ℕ) → Ending p → Ending q → p.own ≡ q.own → (listed p x y ≡ listed q x y) × ((t : List Move) → (played p t).own ≡ (played q t).own)
  -- the length is 1 plus the most rolls to come after an allowed turn of any roll
  pub lengths : (p : Position) → Ending p → (m : ℕ) × MostAfter length_of p m × (length_of p ≡ suc m)
  -- with at most n checkers on each side it is at most 12 n
  pub short : (n : ℕ) (p : Position) → EndingFor n p → length_of p ≤ 12 * n
  -- from the length on one more roll makes 36 times as much of 36 times the whole: the chance is one fraction, the exact one
  pub settles : (n : ℕ) (p : Position) → Ending p → length_of p ≤ n → chance (suc n) p ≡ 36 * chance n p
  pub settled : (n : ℕ) (p : Position) → Ending p → length_of p ≤ n → chance n p ≡ exact n p
  -- it is the mean over the 36 rolls of the best exact chance after an allowed turn
  pub means : (n : ℕ) (p : Position) → Ending p → length_of p ≤ suc n → exact (suc n) p ≡ sum_by (λ r. weight r * best (36 ^ n) (exact n) p r) rolls
  -- and the loss of a turn is one fraction likewise
  pub losses : (n : ℕ) (p : Position) (x y : ℕ) (t : List Move) → Ending p → Roll x y → Allowed p x y t → length_of p ≤ suc n → exact_loss (suc n) p (x, y) t ≡ 36 * exact_loss n p (x, y) t
