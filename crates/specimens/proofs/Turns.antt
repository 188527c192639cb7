-- One checker on 13 with a roll of 6-5.
use Rattle.std.proofs.Common.{◌≡◌, ◌≤◌, None, List, [], ◌∷◌, length, refl, inl, inr, arith, lit≤}
use Rattle.std.proofs.lemmas.Bool.{cases_lt}
use Rattle.refusals.specs.declared.reason.Reason.TheVariants.{TooFewDice, SmallerDie}
use Rattle.refusals.specs.Fields.{plain}
use Rattle.board.specs.Single.{Legal}
use Rattle.turns.specs.declared.dice.Dice.{Dice}
use Rattle.turns.specs.Roll.{Roll, rolled}
use Rattle.turns.specs.Runs.{Move, Run}
use Rattle.turns.proofs.Runs.{run_few}
use Rattle.turns.proofs.Faults.{too_few, smaller}
use Rattle.listing.specs.Listing.{In}
use Rattle.listing.specs.Order.{down, turns}
use Rattle.listing.specs.Laws.{Sound}
use Rattle.listing.proofs.Test.{decides}
use Rattle.listing.proofs.Holds.{Ends, holds}
use Rattle.listing.proofs.Whole.{meets_none}
use Rattle.specimens.specs.Cases.{allowed, refused, turn}
use Rattle.specimens.specs.Specimens.{Stands, thirteen}

none_of_two : turns None 2 thirteen (rolled 6 5) ≡ []
unfolding turns down
none_of_two = refl

sound : Sound thirteen
sound = record { long = refl; complete = refl }

six : Legal thirteen 13 6
six = (decides thirteen 13 6 refl).0 refl

five : Legal thirteen 13 5
five = (decides thirteen 13 5 refl).0 refl

roll : Roll 6 5
roll = ((lit≤ tt, lit≤ tt), (lit≤ tt, lit≤ tt))

one_at_most : (ms : List Move) → Run thirteen (rolled 6 5) ms → length ms ≤ 1
unfolding Ends
one_at_most ms run =
    elim (cases_lt 1 (length ms)) [
      | inr k ↦ k
      | inl k ↦
          (let f = run_few thirteen (rolled 6 5) ms run in
          let e : length ms ≡ 2 = omega arith in
          let i : In ms (turns None 2 thirteen (rolled 6 5)) = holds None 2 thirteen (rolled 6 5) ms sound run (meets_none thirteen ms) (omega arith, inl e) in
          absurd (rw none_of_two at i))
    ]

pub six_allowed : Stands (turn thirteen 6 5 ((13, 6) ∷ []) allowed)
six_allowed = (roll, ((lit≤ tt, six, tt), inr (one_at_most, λ _. refl)))

abbrev dice : Dice
dice = record { left = rolled 6 5; count = 2; long = refl; all = refl; few = lit≤ tt }

pub five-refused : Stands (turn thirteen 6 5 ((13, 5) ∷ []) (refused (plain SmallerDie)))
five-refused =
    smaller thirteen 6 5 ((13, 5) ∷ []) dice (roll, refl) (lit≤ tt) (lit≤ tt, five, tt) one_at_most
    ((λ f. omega (arith, f.1)), (refl, (λ e. omega (arith, e)), (13, six), (13, five)), (λ e. omega (arith, e)))

pub none_refused : Stands (turn thirteen 6 5 [] (refused (plain TooFewDice)))
none_refused = too_few thirteen 6 5 [] dice (roll, refl) (lit≤ tt) tt (λ f. omega (arith, f.0)) ((13, 6) ∷ [], (lit≤ tt, six, tt), lit≤ tt)
