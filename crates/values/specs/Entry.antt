-- The entries of a table, as the rules define them.
use Rattle.std.specs.Prelude.{ℕ, zero, suc, cond, nat_le}
use Rattle.board.specs.Position.{Position, swapped}
use Rattle.listing.specs.Order.{off}
use Rattle.chance.specs.declared.kind.Chance.{Ghosts}
use Rattle.endings.specs.Length.{length_of}
use Rattle.values.specs.Best.{sum_value}

-- the length: 0 where the roller's side is empty, else 0 where the other's is, else the most rolls to come
abbrev pub length_entry : Position → ℕ
length_entry p =
    let length = length_of p in
    let rest = cond (off (swapped p)) 0 length in
    cond (off p) 0 rest

module _ {V S R : Type 0} (k : Ghosts V S R) where
  -- won where the roller's side is empty, else lost where the other's is, else v
  abbrev pub unless_empty : Position → V → V
  unless_empty p v =
      let rest = cond (off (swapped p)) k.lost v in
      cond (off p) k.won rest

  -- lost for a length beyond the reach, else the closed sum over the values that others have
  abbrev pub closed_value : (Position → V) → Position → V
  closed_value others p =
      let mean = k.closed (sum_value k others p) in
      cond (nat_le (length_of p) k.REACH) mean k.lost

  -- the value, reckoned over at most n rolls, where n is at least the length
  unfoldable pub value_within : ℕ → Position → V
  value_within zero p = unless_empty p k.lost
  value_within (suc n) p = unless_empty p (closed_value (value_within n) p)

  -- the value
  unfoldable pub value_entry : Position → V
  value_entry p = value_within (length_of p) p
