-- The number and the layer of each refusal.
use Rattle.std.specs.Prelude.{ℕ}
use Rattle.refusals.specs.declared.reason.Reason.{Reason}
use Rattle.refusals.specs.declared.reason.Reason.TheVariants.{MatchOver, WrongPhase, NotStandingOffer, DieOutOfRange, EqualOpeningDice, CrawfordGame, OthersCube, CubeAtLimit, LevelOutOfRange, TableSizeOutOfRange, WrongPartSize, OtherScale, TooManyMoves, NoSuchStartOrDie, IllegalMove, TooFewDice, SmallerDie, NotAnEnding, PastReach, WeightOutOfRange, SumNotFull, SumTooOld, MatchLengthOutOfRange, BoardRuleBroken, SheetTooLong, NoTrailer, NoSuchForm, LineOutOfPlace, WrongPlace, WrongPlayerOrDice, BufferTooShort, ReportBufferTooShort}
use Rattle.refusals.specs.declared.layer.Layer.{Layer}
use Rattle.refusals.specs.declared.layer.Layer.TheVariants.{Board, Match, Table, Sheet}

-- 1 is the board, 2 the match, 3 the table of endings, 4 the sheet
abbrev pub layer_number : Layer → ℕ
layer_number Board = 1
layer_number Match = 2
layer_number Table = 3
layer_number Sheet = 4

abbrev pub number_of : Reason → ℕ
number_of MatchOver = 1
number_of WrongPhase = 2
number_of NotStandingOffer = 3
number_of DieOutOfRange = 4
number_of EqualOpeningDice = 5
number_of CrawfordGame = 6
number_of OthersCube = 7
number_of CubeAtLimit = 8
number_of LevelOutOfRange = 9
number_of TableSizeOutOfRange = 10
number_of WrongPartSize = 11
number_of OtherScale = 12
number_of TooManyMoves = 13
number_of NoSuchStartOrDie = 14
number_of IllegalMove = 15
number_of TooFewDice = 16
number_of SmallerDie = 17
number_of NotAnEnding = 18
number_of PastReach = 19
number_of WeightOutOfRange = 20
number_of SumNotFull = 21
number_of SumTooOld = 22
number_of MatchLengthOutOfRange = 23
number_of BoardRuleBroken = 24
number_of SheetTooLong = 25
number_of NoTrailer = 26
number_of NoSuchForm = 27
number_of LineOutOfPlace = 28
number_of WrongPlace = 29
number_of WrongPlayerOrDice = 30
number_of BufferTooShort = 31
number_of ReportBufferTooShort = 32

abbrev pub layer_of : Reason → Layer
layer_of MatchOver = Match
layer_of WrongPhase = Match
layer_of NotStandingOffer = Match
layer_of DieOutOfRange = Match
layer_of EqualOpeningDice = Match
layer_of CrawfordGame = Match
layer_of OthersCube = Match
layer_of CubeAtLimit = Match
layer_of LevelOutOfRange = Match
layer_of TableSizeOutOfRange = Table
layer_of WrongPartSize = Table
layer_of OtherScale = Table
layer_of TooManyMoves = Board
layer_of NoSuchStartOrDie = Board
layer_of IllegalMove = Board
layer_of TooFewDice = Board
layer_of SmallerDie = Board
layer_of NotAnEnding = Table
layer_of PastReach = Table
layer_of WeightOutOfRange = Table
layer_of SumNotFull = Table
layer_of SumTooOld = Table
layer_of MatchLengthOutOfRange = Match
layer_of BoardRuleBroken = Match
layer_of SheetTooLong = Sheet
layer_of NoTrailer = Sheet
layer_of NoSuchForm = Sheet
layer_of LineOutOfPlace = Sheet
layer_of WrongPlace = Sheet
layer_of WrongPlayerOrDice = Sheet
layer_of BufferTooShort = Sheet
layer_of ReportBufferTooShort = Sheet
