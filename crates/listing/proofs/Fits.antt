-- Which moves a turn may begin with, and the turns that begin with one.
use Rattle.std.proofs.Common.{◌≡◌, ℕ, ◌<◌, true, false, cond, List, [], ◌∷◌, map, length, Option, arith}
use Rattle.std.proofs.lemmas.Bool.{false_from_ne_true}
use Rattle.std.proofs.lemmas.Bool.Decides.{nat_tests}
use Rattle.board.specs.Side.{on, less}
use Rattle.board.specs.Position.{Position}
use Rattle.board.specs.Single.{Legal, moved}
use Rattle.turns.specs.Runs.{Move}
use Rattle.listing.specs.Order.{down, meets, fits, turns}
use Rattle.listing.proofs.Test.{decides}

module _ (due : Option ℕ) (b : Position) (dice : List ℕ) (s d : ℕ) (l : length b.own ≡ 26) where
  pub fits_parts : fits due b dice s d ≡ true → (0 < on dice d) × Legal b s d × (meets due (moved b s d) d ≡ true)
  fits_parts f = (grind (arith, nat_tests), (decides b s d l).0 (grind (arith, nat_tests)), grind (arith, nat_tests))

  pub fits_on : 0 < on dice d → Legal b s d → meets due (moved b s d) d ≡ true → fits due b dice s d ≡ true
  fits_on has legal met = grind (arith, nat_tests, (decides b s d l).1 legal)

  pub fits_illegal : (Legal b s d → ⊥) → fits due b dice s d ≡ false
  fits_illegal illegal = false_from_ne_true _ (λ f. illegal (fits_parts f).1)

pub fits_unmet : (due : Option ℕ) (b : Position) (dice : List ℕ) (s d : ℕ) → meets due (moved b s d) d ≡ false → fits due b dice s d ≡ false
fits_unmet due b dice s d unmet = grind (arith, nat_tests)

-- the turns that begin with the die d from the start s, from s or lower, and with d or a smaller die
abbrev pub begun : Option ℕ → ℕ → Position → List ℕ → ℕ → ℕ → List (List Move)
begun due n b dice d s = cond (fits due b dice s d) (map (λ t. (s, d) ∷ t) (turns due n (moved b s d) (less dice d))) []

abbrev pub by_start : Option ℕ → ℕ → Position → List ℕ → ℕ → ℕ → List (List Move)
by_start due n b dice d s = down (begun due n b dice d) s

abbrev pub by_die : Option ℕ → ℕ → Position → List ℕ → ℕ → List (List Move)
by_die due n b dice d = down (λ e. by_start due n b dice e 25) d
