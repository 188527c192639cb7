-- A number names one reason.
use Rattle.std.proofs.Common.{◌≡◌, ℕ, zero, suc, ◌+◌, ◌-◌, ◌<◌, ◌≤◌, Bool, true, ◌&&◌, eqb, List, [], ◌∷◌, length, get_or, sym, refl, ap, ◌∙◌, arith, lit≤}
use Rattle.std.proofs.lemmas.Bool.{and_parts, eqb-true}
use Rattle.refusals.specs.declared.reason.Reason.{Reason}
use Rattle.refusals.specs.declared.reason.Reason.TheVariants.{MatchOver, WrongPhase, NotStandingOffer, DieOutOfRange, EqualOpeningDice, CrawfordGame, OthersCube, CubeAtLimit, LevelOutOfRange, TableSizeOutOfRange, WrongPartSize, OtherScale, TooManyMoves, NoSuchStartOrDie, IllegalMove, TooFewDice, SmallerDie, NotAnEnding, PastReach, WeightOutOfRange, SumNotFull, SumTooOld, MatchLengthOutOfRange, BoardRuleBroken, SheetTooLong, NoTrailer, NoSuchForm, LineOutOfPlace, WrongPlace, WrongPlayerOrDice, BufferTooShort, ReportBufferTooShort}
use Rattle.refusals.specs.Numbers.{number_of}
use Rattle.refusals.specs.Closed.{ClosedList}

-- the reasons in the order of their numbers
abbrev ordered : List Reason
ordered =
    MatchOver
    ∷ WrongPhase
    ∷ NotStandingOffer
    ∷ DieOutOfRange
    ∷ EqualOpeningDice
    ∷ CrawfordGame
    ∷ OthersCube
    ∷ CubeAtLimit
    ∷ LevelOutOfRange
    ∷ TableSizeOutOfRange
    ∷ WrongPartSize
    ∷ OtherScale
    ∷ TooManyMoves
    ∷ NoSuchStartOrDie
    ∷ IllegalMove
    ∷ TooFewDice
    ∷ SmallerDie
    ∷ NotAnEnding
    ∷ PastReach
    ∷ WeightOutOfRange
    ∷ SumNotFull
    ∷ SumTooOld
    ∷ MatchLengthOutOfRange
    ∷ BoardRuleBroken
    ∷ SheetTooLong
    ∷ NoTrailer
    ∷ NoSuchForm
    ∷ LineOutOfPlace
    ∷ WrongPlace
    ∷ WrongPlayerOrDice
    ∷ BufferTooShort
    ∷ ReportBufferTooShort
    ∷ []

-- the reasons have the numbers from k on
abbrev counted : ℕ → List Reason → Bool
counted k [] = true
counted k (r ∷ rs) = eqb (number_of r) k && counted (suc k) rs

counted-at : (k : ℕ) (rs : List Reason) (i : ℕ) → counted k rs ≡ true → i < length rs → number_of (get_or rs i MatchOver) ≡ k + i
counted-at k [] i e l = absurd (omega arith)
counted-at k (r ∷ rs) zero e l = eqb-true (number_of r) k (and_parts _ _ e).0 ∙ omega arith
counted-at k (r ∷ rs) (suc i) e l = counted-at (suc k) rs i (and_parts (eqb (number_of r) k) _ e).1 (omega arith) ∙ omega arith

abbrev named : ℕ → Reason
named n = get_or ordered (n - 1) MatchOver

each : (r : Reason) → (named (number_of r) ≡ r) × (1 ≤ number_of r) × (number_of r ≤ 32)
each MatchOver = (refl, lit≤ tt, lit≤ tt)
each WrongPhase = (refl, lit≤ tt, lit≤ tt)
each NotStandingOffer = (refl, lit≤ tt, lit≤ tt)
each DieOutOfRange = (refl, lit≤ tt, lit≤ tt)
each EqualOpeningDice = (refl, lit≤ tt, lit≤ tt)
each CrawfordGame = (refl, lit≤ tt, lit≤ tt)
each OthersCube = (refl, lit≤ tt, lit≤ tt)
each CubeAtLimit = (refl, lit≤ tt, lit≤ tt)
each LevelOutOfRange = (refl, lit≤ tt, lit≤ tt)
each TableSizeOutOfRange = (refl, lit≤ tt, lit≤ tt)
each WrongPartSize = (refl, lit≤ tt, lit≤ tt)
each OtherScale = (refl, lit≤ tt, lit≤ tt)
each TooManyMoves = (refl, lit≤ tt, lit≤ tt)
each NoSuchStartOrDie = (refl, lit≤ tt, lit≤ tt)
each IllegalMove = (refl, lit≤ tt, lit≤ tt)
each TooFewDice = (refl, lit≤ tt, lit≤ tt)
each SmallerDie = (refl, lit≤ tt, lit≤ tt)
each NotAnEnding = (refl, lit≤ tt, lit≤ tt)
each PastReach = (refl, lit≤ tt, lit≤ tt)
each WeightOutOfRange = (refl, lit≤ tt, lit≤ tt)
each SumNotFull = (refl, lit≤ tt, lit≤ tt)
each SumTooOld = (refl, lit≤ tt, lit≤ tt)
each MatchLengthOutOfRange = (refl, lit≤ tt, lit≤ tt)
each BoardRuleBroken = (refl, lit≤ tt, lit≤ tt)
each SheetTooLong = (refl, lit≤ tt, lit≤ tt)
each NoTrailer = (refl, lit≤ tt, lit≤ tt)
each NoSuchForm = (refl, lit≤ tt, lit≤ tt)
each LineOutOfPlace = (refl, lit≤ tt, lit≤ tt)
each WrongPlace = (refl, lit≤ tt, lit≤ tt)
each WrongPlayerOrDice = (refl, lit≤ tt, lit≤ tt)
each BufferTooShort = (refl, lit≤ tt, lit≤ tt)
each ReportBufferTooShort = (refl, lit≤ tt, lit≤ tt)

pub closed : ClosedList
closed =
    record {
      within = λ r. ((each r).1, (each r).2);
      apart = λ r s e. sym (each r).0 ∙ ap named e ∙ (each s).0;
      every = λ n l m. (named n, counted-at 1 ordered (n - 1) refl (omega arith) ∙ omega arith);
    }
