-- What an answer says of a weight.
use Rattle.std.proofs.Common.{◌≡◌, ℕ, Ok, arith}
use Rattle.chance.specs.Sums.{Fits, fits?, Admits}

pub taken_fits : {t w : ℕ} {u : Unit {0}} → Admits t w (Ok u) → Fits t w
taken_fits {t} {w} h = elim (fits? t w) [ yes f ↦ f | no n ↦ let x = h.refused n in let z : ◌≡◌ {A = ℕ} 0 1 = cc in absurd (omega arith) ]
