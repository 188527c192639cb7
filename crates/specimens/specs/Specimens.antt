-- The list of specimens.
use Rattle.std.specs.Prelude.{◌≡◌, ◌-◌, ◌*◌, ◌^◌, List, [], ◌∷◌}
use Rattle.refusals.specs.declared.reason.Reason.TheVariants.{TooFewDice, SmallerDie}
use Rattle.refusals.specs.Fields.{plain}
use Rattle.board.specs.Side.{counts_with_off}
use Rattle.board.specs.Position.{Position}
use Rattle.board.specs.Setup.{placed}
use Rattle.turns.specs.Roll.{Roll}
use Rattle.turns.specs.Runs.{played}
use Rattle.turns.specs.Turns.{Allowed}
use Rattle.turns.specs.Refused.{Refused}
use Rattle.endings.specs.Ending.{Ending}
use Rattle.endings.specs.Length.{length_of}
use Rattle.endings.specs.Exact.{exact, exact_loss}
use Rattle.specimens.specs.Cases.{only, also, allowed, refused, Specimen, turn, winning, lasting, losing}

-- what a specimen says, by the rules
abbrev pub Stands : Specimen → Type 0
Stands (turn b x y t allowed) = Roll x y × Allowed b x y t
Stands (turn b x y t (refused e)) = Refused b x y t e
Stands (winning p u v) = Ending p × (exact (length_of p) p * v ≡ u * 36 ^ length_of p)
Stands (lasting p n) = Ending p × (length_of p ≡ n)
Stands (losing p x y t counts u v) =
    let n = length_of p - 1 in
    Ending p × Roll x y × Allowed p x y t × ((played p t).own ≡ counts_with_off counts) × (exact_loss n p (x, y) t * v ≡ u * 36 ^ n)

-- White has one checker, on 13; Black has two on White's 2
abbrev pub thirteen : Position
thirteen = placed (only 1 13) (only 2 23)

-- one checker on 6 against one on 1, and one on 5 against one on 1
abbrev pub six_one : Position
six_one = placed (only 1 6) (only 1 1)

abbrev pub five_one : Position
five_one = placed (only 1 5) (only 1 1)

-- one checker on 4 and one on 3 against two on 2
abbrev pub four_three : Position
four_three = placed (also 1 3 (only 1 4)) (only 2 2)

-- on 13 with 6-5 either die can be played and not both: the 6 is due
abbrev pub specimens : List Specimen
specimens =
    turn thirteen 6 5 ((13, 6) ∷ []) allowed
    ∷ turn thirteen 6 5 ((13, 5) ∷ []) (refused (plain SmallerDie))
    ∷ turn thirteen 6 5 [] (refused (plain TooFewDice))
    ∷ winning six_one 27 36
    ∷ lasting six_one 2
    ∷ winning five_one 31 36
    ∷ losing four_three 2 1 ((4, 2) ∷ (3, 1) ∷ []) (only 2 2) 80 1296
    ∷ lasting four_three 4
    ∷ []
