-- The most dice, put together from the first moves.
use Rattle.std.proofs.Common.{◌≡◌, ℕ, ◌+◌, ◌<◌, ◌≤◌, max, ◌⊎◌, List, [], ◌∷◌, length, sum, inl, inr, arith}
use Rattle.std.proofs.lemmas.Bool.{cases_lt}
use Rattle.board.specs.Side.{on, less}
use Rattle.board.specs.declared.board.Board.{Board}
use Rattle.board.specs.Position.{Position, position}
use Rattle.board.specs.Single.{Legal, moved}
use Rattle.turns.specs.declared.dice.Dice.{Dice}
use Rattle.turns.specs.Using.{Without}
use Rattle.turns.specs.Runs.{Move, Run, Most}
use Rattle.turns.proofs.Runs.{run_few}

-- the moves with a die below d, or with d from a start below s
abbrev pub Tried : ℕ → ℕ → Move → Type 0
Tried d s m = (m.1 < d) ⊎ ((m.1 ≡ d) × (m.0 < s))

abbrev pub Begins : ℕ → ℕ → List Move → Type 0
Begins d s [] = Unit {0}
Begins d s (m ∷ ms) = Tried d s m

-- some run uses r dice, and none uses more that begins with a move tried
pub record SoFar (d s : ℕ) (b : Position) (dice : List ℕ) (r : ℕ) : Type 0 where
  pub some : (ms : List Move) × Run b dice ms × (length ms ≡ r)
  pub none : (ms : List Move) → Run b dice ms → Begins d s ms → length ms ≤ r

max_is : (h l : ℕ) → (max h l ≡ h) ⊎ (max h l ≡ l)
max_is h l = elim (cases_lt h l) [ inl k ↦ inr (omega arith) | inr k ↦ inl (omega arith) ]

tried-more : (d s : ℕ) (m : Move) → Tried d (s + 1) m → Tried d s m ⊎ ((m.0 ≡ s) × (m.1 ≡ d))
tried-more d s m (inl k) = inl (inl k)
tried-more d s m (inr k) = elim (cases_lt m.0 s) [ inl l ↦ inl (inr (k.0, l)) | inr l ↦ inr (omega arith, k.0) ]

module _ (b : Position) (dice : List ℕ) where
  pub start_played : (d s best r : ℕ) → 0 < on dice d → Legal b s d → Most (moved b s d) (less dice d) r → SoFar d s b dice best → SoFar d (s + 1) b dice (max best (1 + r))
  start_played d s best r has legal m f =
      record {
        some = elim (max_is best (1 + r)) [
          | inl e ↦ rw e f.some
          | inr e ↦ rw e (let g = m.some in ((s, d) ∷ g.0, (has, legal, g.1), omega (arith, g.2)))
        ];
        none = bound;
      }
    where
      bound : (ms : List Move) → Run b dice ms → Begins d (s + 1) ms → length ms ≤ max best (1 + r)
      bound [] run first = omega arith
      bound (n ∷ ms) run first =
          elim (tried-more d s n first) [
            | inl p ↦ omega (arith, f.none (n ∷ ms) run p)
            | inr e ↦ (let run' : Run (moved b s d) (less dice d) ms = rw (e.0, e.1) at run.2 in omega (arith, m.none ms run'))
          ]

-- one turn of the search: a legal move, and the most dice behind it
pub move_tried : (b after : Board) (dice rest : Dice) (d s best r top : ℕ) → Without dice d rest → Legal (position b) s d × (position after ≡ moved (position b) s d) → Most (position after) rest.left r → r ≤ rest.count → top ≡ max best (1 + r) → SoFar d s (position b) dice.left best × (best ≤ dice.count) → SoFar d (s + 1) (position b) dice.left top × (top ≤ dice.count)
move_tried b after dice rest d s best r top w m most few is f =
    let behind = rw (m.1, w.left) at most in
    (rw is (start_played (position b) dice.left d s best r w.has m.0 behind f.0), omega (arith, w.fewer, f.1))

-- a run that uses all dice is a longest one
pub most_of_all : (d s : ℕ) (b : Position) (dice : List ℕ) (r : ℕ) → r ≡ sum dice → SoFar d s b dice r → Most b dice r
most_of_all d s b dice r e f = record { some = f.some; none = λ ms run. omega (arith, run_few b dice ms run) }
