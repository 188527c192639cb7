-- Reading the lent parts of a table. The entry of the roller's place a and the other's place b stands at a × size + b.
use Rattle.std.specs.Prelude.{ℕ, ◌+◌, ◌*◌, cond, List, map, ◌==◌, slice_index, slice_index_or}
use Rattle.chance.specs.declared.kind.Chance.{Ghosts}
use Rattle.listing.specs.Order.{greatest}
use Rattle.values.specs.Best.{best_from_first}

-- the length entry, 0 past the end of the part
abbrev pub length_at : ℕ → List ℕ → ℕ → ℕ → ℕ
length_at size lengths a b = slice_index lengths (a * size + b)

-- the rolls to come after a turn that leads to the place q: none where the side is empty, else those of the other, then to roll
abbrev pub length_after : ℕ → List ℕ → ℕ → ℕ → ℕ
length_after size lengths b q = cond (q == 0) 0 (length_at size lengths b q)

-- the greatest after turns that lead to these places
abbrev pub most_length : ℕ → List ℕ → ℕ → List ℕ → ℕ
most_length size lengths b qs = greatest (map (length_after size lengths b) qs)

module _ {V S R : Type 0} (k : Ghosts V S R) where
  -- the value that the row of an entry is read as, lost past the end of the part
  abbrev pub value_in : ℕ → List R → ℕ → ℕ → V
  value_in size rows a b = k.read (slice_index_or rows (a * size + b) (k.written k.lost))

  -- the value after a turn that leads to the place q: won where the side is empty, else the other's value, then to roll, turned
  abbrev pub value_after : ℕ → List R → ℕ → ℕ → V
  value_after size rows b q = cond (q == 0) k.won (k.turned (value_in size rows b q))

  -- the best of a roll whose turns lead to these places, in their order
  abbrev pub best_place : ℕ → List R → ℕ → List ℕ → V
  best_place size rows b qs = best_from_first k (map (value_after size rows b) qs)
