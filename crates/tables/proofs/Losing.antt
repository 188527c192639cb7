-- What one range is more than another.
use Rattle.std.proofs.Common.{◌≡◌, ℕ, ◌+◌, ◌-◌, ◌*◌, ◌≤◌, ap, inl, inr, mul-le-mul_left, arith}
use Rattle.std.proofs.lemmas.Bool.{cases_lt}
use Rattle.chance.specs.declared.kind.Chance.{Ghosts}
use Rattle.tables.specs.Loss.{ends_of_loss, LossHeld}

less_times : (a b c : ℕ) → (a - b) * c ≡ a * c - b * c
less_times a b c =
    elim (cases_lt b a) [
      | inl l ↦ (let e : a ≡ b + (a - b) = omega arith in let m : a * c ≡ (b + (a - b)) * c = ap (λ z. z * c) e in omega (arith, m))
      | inr l ↦ (let z : a - b ≡ 0 = omega arith in rw z (omega (arith, mul-le-mul_left c l)))
    ]

-- the range from bl to bu holds pn / pd, and the one from al to au holds qn / qd, over the scale s
module _ (s pn pd qn qd : ℕ) where
  pub low : (bl au : ℕ) → bl * pd ≤ pn * s → qn * s ≤ au * qd → (bl - au) * (pd * qd) ≤ (pn * qd - qn * pd) * s
  low bl au f g =
      rw (less_times bl au (pd * qd), less_times (pn * qd) (qn * pd) s)
      (omega (arith, mul-le-mul_left qd f, mul-le-mul_left pd g))

  pub high : (bu al : ℕ) → pn * s ≤ bu * pd → al * qd ≤ qn * s → (pn * qd - qn * pd) * s ≤ (bu - al) * (pd * qd)
  high bu al f g =
      rw (less_times bu al (pd * qd), less_times (pn * qd) (qn * pd) s)
      (omega (arith, mul-le-mul_left qd f, mul-le-mul_left pd g))

pub loss-held : {V S R : Type 0} (k : Ghosts V S R) (best after : V) → LossHeld k best after (ends_of_loss k best after)
loss-held k best after p q h g =
    record {
      low = low k.SCALE p.num p.den q.num q.den (k.lower best) (k.upper after) h.low g.high;
      high = high k.SCALE p.num p.den q.num q.den (k.upper best) (k.lower after) h.high g.low;
    }
