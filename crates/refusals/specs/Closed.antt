-- The list of refusals is closed.
use Rattle.std.specs.Prelude.{◌≡◌, ℕ, ◌≤◌}
use Rattle.refusals.specs.declared.reason.Reason.{Reason}
use Rattle.refusals.specs.Numbers.{number_of}

pub record ClosedList : Type 0 where
  -- numbers go from 1 to 32
  pub within : (r : Reason) → (1 ≤ number_of r) × (number_of r ≤ 32)
  -- no two reasons have one number
  pub apart : (r s : Reason) → number_of r ≡ number_of s → r ≡ s
  -- and none is left out
  pub every : (n : ℕ) → 1 ≤ n → n ≤ 32 → (r : Reason) × (number_of r ≡ n)
