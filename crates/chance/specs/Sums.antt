-- When a sum takes a weight, when it can be closed, and what is answered.
use Rattle.std.specs.Prelude.{◌≡◌, ℕ, ◌+◌, ◌<◌, ◌≤◌, Ok, Err, Result}
use Rattle.std.proofs.Math.Decide.{dec_le, dec_lt}
use Rattle.refusals.specs.declared.refusal.Refusal.{Refusal}
use Rattle.refusals.specs.declared.reason.Reason.TheVariants.{WeightOutOfRange, SumNotFull, SumTooOld}
use Rattle.refusals.specs.Fields.{plain}

-- a sum of weight t takes a weight of w: it is not 0, and 36 is not passed in all
pub record Fits (t w : ℕ) : Type 0 where
  pub some : 0 < w
  pub room : t + w ≤ 36

-- whether it does
unfoldable pub fits? : (t w : ℕ) → Dec (Fits t w)
fits? t w = elim (dec_lt 0 w) [
  | yes some ↦ elim (dec_le (t + w) 36) [ yes room ↦ yes (record { some = some; room = room }) | no past ↦ no (λ h. past h.room) ]
  | no none ↦ no (λ h. none h.some)
]

-- what adding a weight of w to a sum of weight t is answered
pub record Admits (t w : ℕ) (r : Result (Unit {0}) Refusal) : Type 0 where
  pub taken : Fits t w → r ≡ Ok tt
  pub refused : (Fits t w → ⊥) → r ≡ Err (plain WeightOutOfRange)

-- whether a sum of this weight and greatest age can be closed; the weight is tested first
pub record Closable (weight oldest reach : ℕ) (r : Result (Unit {0}) Refusal) : Type 0 where
  pub short : weight < 36 → r ≡ Err (plain SumNotFull)
  pub old : 36 ≤ weight → reach ≤ oldest → r ≡ Err (plain SumTooOld)
  pub done : 36 ≤ weight → oldest < reach → r ≡ Ok tt

-- what closing a sum answers, and what the sum is then: empty, or as it was where closing is refused
pub record Closes {V S : Type 0} (weight oldest reach : ℕ) (value : V) (empty before : S) (r : Result V Refusal) (after : S) : Type 0 where
  pub short : weight < 36 → (r ≡ Err (plain SumNotFull)) × (after ≡ before)
  pub old : 36 ≤ weight → reach ≤ oldest → (r ≡ Err (plain SumTooOld)) × (after ≡ before)
  pub done : 36 ≤ weight → oldest < reach → (r ≡ Ok value) × (after ≡ empty)
