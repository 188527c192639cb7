-- What holds of the entries of a table, for every kind.
use Rattle.std.specs.Prelude.{◌≡◌, ℕ, suc, ◌-◌, ◌*◌, ◌^◌, ◌<◌, ◌≤◌, true, false, List, map}
use Rattle.board.specs.Position.{Position, swapped}
use Rattle.turns.specs.Roll.{Roll}
use Rattle.turns.specs.Runs.{Move, played}
use Rattle.turns.specs.Turns.{Allowed}
use Rattle.listing.specs.Order.{off, greatest, listed}
use Rattle.chance.specs.Fraction.{over36}
use Rattle.chance.specs.Held.{Held}
use Rattle.chance.specs.declared.kind.Chance.{Ghosts}
use Rattle.endings.specs.Ending.{Ending}
use Rattle.endings.specs.Chance.{after, best, chance}
use Rattle.endings.specs.Length.{more, length_of}
use Rattle.endings.specs.Rolls.{rolls}
use Rattle.values.specs.Best.{after_value, best_value, sum_value}
use Rattle.values.specs.Entry.{length_entry, value_within, value_entry}

-- q is an ending of the other player, shorter than p, to which an allowed turn of p leads
pub record Reached (p q : Position) : Type 0 where
  pub dice : ℕ × ℕ
  pub roll : Roll dice.0 dice.1
  pub turn : List Move
  pub allowed : Allowed p dice.0 dice.1 turn
  pub left : off (played p turn) ≡ false
  pub is : q ≡ swapped (played p turn)
  pub ending : Ending q
  pub shorter : length_of q < length_of p

module _ {V S R : Type 0} (k : Ghosts V S R) where
  -- v holds the exact chance of p, and its age is the length
  pub record Entered (p : Position) (v : V) : Type 0 where
    pub holds : Held k v (over36 (length_of p) (chance (length_of p) p))
    pub age : k.age v ≡ length_of p

  -- at each ending that p leads to, others have a value that holds its exact chance
  abbrev pub Others : (Position → V) → Position → Type 0
  Others others p = (q : Position) → Reached p q → Entered q (others q)

  -- v holds the part a n of 36 ^ n wherever n and one roll are at least the length of p, and is younger than that length
  pub record Younger (p : Position) (a : ℕ → ℕ) (v : V) : Type 0 where
    pub holds : (n : ℕ) → length_of p ≤ suc n → Held k v (over36 n (a n))
    pub age : k.age v < length_of p

  -- over these others, the value after each allowed turn and the best of each roll hold their exact chances
  pub record Judged (others : Position → V) (p : Position) : Type 0 where
    pub afters : (x y : ℕ) (t : List Move) → Roll x y → Allowed p x y t → Younger p (λ n. after (36 ^ n) (chance n) p t) (after_value k others p t)
    pub bests : (x y : ℕ) → Roll x y → Younger p (λ n. best (36 ^ n) (chance n) p (x, y)) (best_value k others p (x, y))

  -- over these others, the sum can be closed, and closed it holds the exact chance
  pub record Summed (others : Position → V) (p : Position) : Type 0 where
    pub full : k.weight (sum_value k others p) ≡ 36
    pub young : k.oldest (sum_value k others p) < k.REACH
    pub entered : Entered p (k.closed (sum_value k others p))

  pub record EntriesLaw : Type 0 where
    -- an entry within the reach holds the exact chance, its age is the length, and its ends are at most a grain apart for each roll
    pub holds : (p : Position) → Ending p → length_of p ≤ k.REACH → Entered p (value_entry k p)
    pub narrow : (p : Position) → Ending p → length_of p ≤ k.REACH → k.upper (value_entry k p) - k.lower (value_entry k p) ≤ k.GRAIN * length_of p
    -- so do the best of a roll and the value after an allowed turn, over the entries
    pub bests : (p : Position) → Ending p → length_of p ≤ k.REACH → Judged (value_entry k) p
    -- and over any others that hold the exact chances of the endings to which p leads
    pub judged : (others : Position → V) (p : Position) → Ending p → Others others p → Judged others p
    pub summed : (others : Position → V) (p : Position) → Ending p → length_of p ≤ k.REACH → Others others p → Summed others p
    -- after, best and sum rest on the endings to which p leads alone
    pub after_alike : (f g : Position → V) (p : Position) (x y : ℕ) (t : List Move) → Ending p → Roll x y → Allowed p x y t → ((q : Position) → Reached p q → f q ≡ g q) → after_value k f p t ≡ after_value k g p t
    pub best_alike : (f g : Position → V) (p : Position) (x y : ℕ) → Ending p → Roll x y → ((q : Position) → Reached p q → f q ≡ g q) → best_value k f p (x, y) ≡ best_value k g p (x, y)
    pub sum_alike : (f g : Position → V) (p : Position) → Ending p → ((q : Position) → Reached p q → f q ≡ g q) → sum_value k f p ≡ sum_value k g p
    -- which value an entry is: won, lost, the closed sum over the entries, or lost past the reach
    pub won : (p : Position) → off p ≡ true → value_entry k p ≡ k.won
    pub lost : (p : Position) → off p ≡ false → off (swapped p) ≡ true → value_entry k p ≡ k.lost
    pub step : (p : Position) → Ending p → length_of p ≤ k.REACH → value_entry k p ≡ k.closed (sum_value k (value_entry k) p)
    pub past : (p : Position) → Ending p → k.REACH < length_of p → value_entry k p ≡ k.lost
    -- which length: in an ending the most rolls to come, 1 plus the greatest after a turn of any roll over others that have the lengths of the endings to which p leads
    pub length : (p : Position) → Ending p → length_entry p ≡ length_of p
    pub length_from : (others : Position → ℕ) (p : Position) → Ending p → ((q : Position) → Reached p q → others q ≡ length_of q) → length_of p ≡ suc (greatest (map (λ r. greatest (map (more others p) (listed p r.0 r.1))) rolls))
    -- the value does not rest on the number of rolls over which it is reckoned
    pub within : (n : ℕ) (p : Position) → Ending p → length_of p ≤ n → value_within k n p ≡ value_entry k p
