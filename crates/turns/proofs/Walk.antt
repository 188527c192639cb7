-- A turn move by move.
use Rattle.std.proofs.Common.{◌≡◌, ℕ, ◌+◌, ◌<◌, List, ◌∷◌, length, get_or, drop, refl, inl, inr, add-one, drop-cons}
use Rattle.refusals.specs.declared.refusal.Refusal.{Refusal}
use Rattle.refusals.specs.declared.reason.Reason.TheVariants.{NoSuchStartOrDie, IllegalMove}
use Rattle.refusals.specs.Fields.{refusal_at_move}
use Rattle.refusals.specs.Order.{Accept}
use Rattle.board.specs.Position.{Position}
use Rattle.board.specs.Single.{Legal}
use Rattle.turns.specs.Runs.{Move, Run, played}
use Rattle.turns.specs.Refused.{AtHand, MoveByMove}

-- what the moves from the ith on, on the position b with these dice, say of the whole turn
pub record Onward (p : Position) (all : List ℕ) (turn : List Move) (i : ℕ) (b : Position) (dice : List ℕ) : Type 0 where
  pub run : Run b dice (drop i turn) → Run p all turn
  pub ends : played b (drop i turn) ≡ played p turn
  pub stops : (e : Refusal) → MoveByMove (i + 1) b dice (drop i turn) Accept e → MoveByMove 1 p all turn Accept e

module _ (p : Position) (all : List ℕ) (turn : List Move) (i : ℕ) (within : i < length turn) (b : Position) (dice : List ℕ) (on' : Onward p all turn i b dice) where
  abbrev m : Move
  m = get_or turn i (0, 0)

  next : drop i turn ≡ m ∷ drop (i + 1) turn
  next = rw (add-one, drop-cons turn i (0, 0))

  pub not_at_hand : (AtHand dice m → ⊥) → MoveByMove 1 p all turn Accept (refusal_at_move NoSuchStartOrDie (i + 1))
  not_at_hand no' = on'.stops _ (rw next (inl (no', refl)))

  pub not_legal : AtHand dice m → (Legal b m.0 m.1 → ⊥) → MoveByMove 1 p all turn Accept (refusal_at_move IllegalMove (i + 1))
  not_legal hand no' = on'.stops _ (rw next (inr (λ no''. no'' hand, inl (no', refl))))
