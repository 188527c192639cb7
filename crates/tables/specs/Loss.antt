-- The loss of a turn.
use Rattle.std.specs.Prelude.{ℕ, ◌-◌, ◌*◌}
use Rattle.std.proofs.Common.{mul-pos}
use Rattle.chance.specs.declared.kind.Chance.{Ghosts}
use Rattle.chance.specs.Fraction.{Fraction, Holds}
use Rattle.chance.specs.Held.{Held}

-- what p is more than q, 0 where it is not
abbrev pub minus : Fraction → Fraction → Fraction
minus p q = record { num = p.num * q.den - q.num * p.den; den = p.den * q.den; above = mul-pos p.above q.above }

module _ {V S R : Type 0} (k : Ghosts V S R) (best after : V) where
  -- at least what the best has for certain above what the after-value may have, at most the other way round, and nothing below 0
  abbrev pub ends_of_loss : ℕ × ℕ
  ends_of_loss = (k.lower best - k.upper after, k.upper best - k.lower after)

  -- where the best and the after-value hold their chances, the loss holds what the one is more than the other
  abbrev pub LossHeld : ℕ × ℕ → Type 0
  LossHeld r = (p q : Fraction) → Held k best p → Held k after q → Holds k.SCALE r.0 r.1 (minus p q)
