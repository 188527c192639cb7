-- The entry of a table from the places to which the turns of each roll lead.
use Rattle.std.specs.Prelude.{ℕ, suc, min, cond, ◌&&◌, List, [], ◌∷◌, map, nat_le, nat_lt}
use Rattle.chance.specs.declared.kind.Chance.{Ghosts}
use Rattle.listing.specs.Order.{greatest}
use Rattle.endings.specs.Rolls.{TwoDice, rolls, weight}
use Rattle.tables.specs.Parts.{most_length, best_place}

-- one roll more than the greatest length after any turn of any roll, kept in 8 bits
unfoldable pub entry_length : ℕ → List ℕ → ℕ → List (List ℕ) → ℕ
entry_length size lengths b lists = min 255 (suc (greatest (map (most_length size lengths b) lists)))

module _ {V S R : Type 0} (k : Ghosts V S R) (size : ℕ) (rows : List R) (b : ℕ) where
  -- the best of each roll, added by the roll's weight
  abbrev pub sum_over : S → List TwoDice → List (List ℕ) → S
  sum_over s [] ts = s
  sum_over s (r ∷ rs) [] = s
  sum_over s (r ∷ rs) (qs ∷ ts) = sum_over (k.added s (weight r) (best_place k size rows b qs)) rs ts

  -- a full sum below the reach is closed; any other leaves lost
  abbrev pub settled : S → V
  settled s = cond (nat_le 36 (k.weight s) && nat_lt (k.oldest s) k.REACH) (k.closed s) k.lost

  -- the value of the entry, which is lost for a length beyond the reach
  unfoldable pub entry_value : ℕ → List (List ℕ) → V
  entry_value n lists = cond (nat_le n k.REACH) (settled (sum_over k.empty rolls lists)) k.lost
