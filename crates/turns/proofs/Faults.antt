-- The refusals of a turn, put together; and a turn that is refused is not allowed.
use Rattle.std.proofs.Common.{◌≡◌, ℕ, suc, ◌<◌, ◌≤◌, List, [], ◌∷◌, length, is_ok, Ok, Err, Decides, sum, Result, refl, ap, ◌∙◌, inl, inr, arith}
use Rattle.std.proofs.lemmas.Bool.{false≢true}
use Rattle.refusals.specs.declared.refusal.Refusal.{Refusal}
use Rattle.refusals.specs.declared.reason.Reason.TheVariants.{TooFewDice, SmallerDie}
use Rattle.refusals.specs.Fields.{plain}
use Rattle.refusals.specs.Order.{Refuse, Accept}
use Rattle.board.specs.declared.board.Board.{Board}
use Rattle.board.specs.Side.{on, checkers, less}
use Rattle.board.specs.Position.{Position, position}
use Rattle.board.specs.Single.{moved}
use Rattle.turns.specs.declared.dice.Dice.{Dice}
use Rattle.turns.specs.Roll.{Roll, rolled}
use Rattle.turns.specs.Runs.{Move, Run, played}
use Rattle.turns.specs.Turns.{Finishes, AsMany, Allowed}
use Rattle.turns.specs.Refused.{MoveByMove, Longer, TooFew, Smaller, Refused}
use Rattle.turns.specs.Checked.{Checked}
use Rattle.turns.proofs.Runs.{run_few}

-- a fault of the moves comes before all that is tested behind them
stops_first : (n : ℕ) (b : Position) (dice : List ℕ) (turn : List Move) (rest : Refusal → Type 0) (e : Refusal) → MoveByMove n b dice turn Accept e → MoveByMove n b dice turn rest e
stops_first n b dice [] rest e f = absurd f
stops_first n b dice (m ∷ ms) rest e (inl f) = inl f
stops_first n b dice (m ∷ ms) rest e (inr (f, inl g)) = inr (f, inl g)
stops_first n b dice (m ∷ ms) rest e (inr (f, inr (g, h))) = inr (f, inr (g, stops_first (suc n) (moved b m.0 m.1) (less dice m.1) ms rest e h))

-- the moves of a run have no fault
pub run_on : (n : ℕ) (b : Position) (dice : List ℕ) (turn : List Move) (rest : Refusal → Type 0) (e : Refusal) → Run b dice turn → rest e → MoveByMove n b dice turn rest e
run_on n b dice [] rest e run f = f
run_on n b dice (m ∷ ms) rest e run f =
    inr (
      λ no'. no' (run.1.start.0, run.1.start.1, run.0),
      inr (λ no'. no' run.1, run_on (suc n) (moved b m.0 m.1) (less dice m.1) ms rest e run.2 f),
    )

run_off : (n : ℕ) (b : Position) (dice : List ℕ) (turn : List Move) (rest : Refusal → Type 0) (e : Refusal) → Run b dice turn → MoveByMove n b dice turn rest e → rest e
run_off n b dice [] rest e run f = f
run_off n b dice (m ∷ ms) rest e run (inl f) = absurd (f.0 (run.1.start.0, run.1.start.1, run.0))
run_off n b dice (m ∷ ms) rest e run (inr (f, inl g)) = absurd (g.0 run.1)
run_off n b dice (m ∷ ms) rest e run (inr (f, inr (g, h))) = run_off (suc n) (moved b m.0 m.1) (less dice m.1) ms rest e run.2 h

-- a board that is not finished, told of the turn that led to it
pub not_finished : (b : Position) (turn : List Move) (after : Board) → position after ≡ played b turn → ((0 < length turn) × (on after.own 0 ≡ checkers) → ⊥) → Finishes b turn → ⊥
not_finished b turn after e no' f = no' (f.0, ap (λ (p : Position). on p.own 0) e ∙ f.1)

-- what is tested of a run: too few dice, then the smaller die
abbrev AfterRun : Position → ℕ → ℕ → List Move → Refusal → Type 0
AfterRun b x y turn = Refuse (TooFew b x y turn) (plain TooFewDice) (Refuse (Smaller b x y turn) (plain SmallerDie) Accept)

-- the refusals of a turn with as many moves as dice at most
module _ (b : Position) (x y : ℕ) (turn : List Move) (dice : Dice) (roll : Roll x y × (dice.left ≡ rolled x y)) (few : length turn ≤ dice.count) where
  counted : (e : Refusal) → MoveByMove 1 b dice.left turn (AfterRun b x y turn) e → Refused b x y turn e
  counted e f = inr (λ no'. no' roll.0, inr (λ many. omega (arith, dice.all, ap sum roll.1), rw roll.1 at f))

  pub stopped : (e : Refusal) → MoveByMove 1 b dice.left turn Accept e → Refused b x y turn e
  stopped e f = counted e (stops_first 1 b dice.left turn (AfterRun b x y turn) e f)

  pub too_few : Run b dice.left turn → (Finishes b turn → ⊥) → Longer b dice.left turn → Refused b x y turn (plain TooFewDice)
  too_few run no' longer = counted _ (run_on 1 b dice.left turn (AfterRun b x y turn) _ run (inl ((no', (rw roll.1 at longer)), refl)))

  pub smaller : Run b dice.left turn → AsMany b dice.left turn → Smaller b x y turn → Refused b x y turn (plain SmallerDie)
  smaller run full f =
      let most = rw roll.1 at full in
      counted _ (run_on 1 b dice.left turn (AfterRun b x y turn) _ run (inr (λ g. omega (arith, most g.1.0 g.1.1, g.1.2), inl (f, refl))))

refused_not_allowed : (b : Position) (x y : ℕ) (turn : List Move) (e : Refusal) → Refused b x y turn e → Roll x y × Allowed b x y turn → ⊥
refused_not_allowed b x y turn e (inl f) a = f.0 a.0
refused_not_allowed b x y turn e (inr (f, inl g)) a = omega (arith, g.0, run_few b (rolled x y) turn a.1.0)
refused_not_allowed b x y turn e (inr (f, inr (g, h))) a = settled (run_off 1 b (rolled x y) turn (AfterRun b x y turn) e a.1.0 h)
  where
    settled : AfterRun b x y turn e → ⊥
    settled (inl k) = elim a.1.1 [ inl f' ↦ k.0.0 f' | inr full ↦ omega (arith, full.0 k.0.1.0 k.0.1.1, k.0.1.2) ]
    settled (inr (k, inl l)) = elim a.1.1 [ inl f' ↦ l.0.0 f' | inr full ↦ l.0.2 (full.1 l.0.1) ]
    settled (inr (k, inr l)) = l.1

pub exactly : (b : Position) (x y : ℕ) (turn : List Move) (r : Result Board Refusal) → Checked b x y turn r → Decides (is_ok r) (Roll x y × Allowed b x y turn)
exactly b x y turn (Ok after) c = (λ _. (c.0, c.1), λ _. refl)
exactly b x y turn (Err e) c = (λ k. absurd (false≢true k), λ a. absurd (refused_not_allowed b x y turn e c a))
