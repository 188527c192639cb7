-- How refusals are printed.
use Rattle.std.specs.Prelude.{ℕ, List, ◌++◌, codes, decimal}
use Rattle.refusals.specs.declared.refusal.Refusal.{Refusal}
use Rattle.refusals.specs.declared.failure.Failure.{Failure}
use Rattle.refusals.specs.declared.failure.Failure.TheVariants.{Refused, NoMemory}
use Rattle.refusals.specs.Numbers.{number_of, layer_of, layer_number}

-- a space and the number in decimal digits
abbrev pub spaced : ℕ → List ℕ
spaced n = codes " " ++ decimal n

-- layer, number, game, turn, move and place, parted by a space
abbrev pub refusal_text : Refusal → List ℕ
refusal_text r =
    decimal (layer_number (layer_of r.reason))
    ++ (spaced (number_of r.reason) ++ (spaced r.game ++ (spaced r.turn ++ (spaced r.nth ++ spaced r.place))))

-- a refusal's fields, or what the library says of memory that falls short
abbrev pub failure_text : Failure → List ℕ
failure_text (Refused r) = refusal_text r
failure_text NoMemory = codes "memory allocation failed"
