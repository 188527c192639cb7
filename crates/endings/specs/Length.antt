-- The length of an ending: the most rolls that can come before a side's last checker is off.
use Rattle.std.specs.Prelude.{◌≡◌, ℕ, zero, suc, ◌≤◌, cond, List, map}
use Rattle.board.specs.Position.{Position, swapped}
use Rattle.turns.specs.Roll.{Roll}
use Rattle.turns.specs.Runs.{Move, played}
use Rattle.turns.specs.Turns.{Allowed}
use Rattle.listing.specs.Order.{off, greatest, listed}
use Rattle.endings.specs.Pips.{both_pips}
use Rattle.endings.specs.Rolls.{rolls}

-- the rolls to come after a turn: none with the last checker off, else those of the other, then to roll
abbrev pub more : (Position → ℕ) → Position → List Move → ℕ
more others p t =
    let q = played p t in
    let rest = others (swapped q) in
    cond (off q) 0 rest

-- the most rolls to come, counted to n
unfoldable pub lasts : ℕ → Position → ℕ
lasts zero p = 0
lasts (suc n) p = suc (greatest (map (λ r. greatest (map (more (lasts n) p) (listed p r.0 r.1))) rolls))

-- the most rolls to come: each takes a pip at least
unfoldable pub length_of : Position → ℕ
length_of p = lasts (both_pips p) p

-- m is the greatest number of rolls to come after an allowed turn of any roll: none leaves more, and one leaves it
pub record MostAfter (others : Position → ℕ) (p : Position) (m : ℕ) : Type 0 where
  pub bound : (x y : ℕ) (t : List Move) → Roll x y → Allowed p x y t → more others p t ≤ m
  pub reached : (x y : ℕ) × (t : List Move) × Roll x y × Allowed p x y t × (more others p t ≡ m)
