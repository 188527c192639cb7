-- Exact chances of the roller, both playing best, as whole numbers over a power of 36.
use Rattle.std.specs.Prelude.{◌≡◌, ℕ, zero, suc, ◌-◌, ◌*◌, ◌^◌, ◌≤◌, cond, List, map, sum_by}
use Rattle.board.specs.Position.{Position, swapped}
use Rattle.turns.specs.Runs.{Move, played}
use Rattle.turns.specs.Turns.{Allowed}
use Rattle.listing.specs.Order.{off, greatest, listed}
use Rattle.endings.specs.Rolls.{TwoDice, rolls, weight}

-- what the roller has of the whole after a turn: all of it with the last checker off, else what the other, then to roll, has not
abbrev pub after : ℕ → (Position → ℕ) → Position → List Move → ℕ
after whole others p t =
    let q = played p t in
    let rest = whole - others (swapped q) in
    cond (off q) whole rest

-- the best of a roll: the greatest after an allowed turn
abbrev pub best : ℕ → (Position → ℕ) → Position → TwoDice → ℕ
best whole others p r = greatest (map (after whole others p) (listed p r.0 r.1))

-- the roller's chance, of 36 ^ n, where n is at least the number of rolls to come
unfoldable pub chance : ℕ → Position → ℕ
chance zero p = 0
chance (suc n) p = sum_by (λ r. weight r * best (36 ^ n) (chance n) p r) rolls

-- v is the greatest that a turn can bring: of those allowed none gives more, and one gives it
pub record Best (whole : ℕ) (others : Position → ℕ) (p : Position) (r : TwoDice) (v : ℕ) : Type 0 where
  pub bound : (t : List Move) → Allowed p r.0 r.1 t → after whole others p t ≤ v
  pub reached : (t : List Move) × Allowed p r.0 r.1 t × (after whole others p t ≡ v)
