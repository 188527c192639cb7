-- There is always an allowed turn.
use Rattle.std.proofs.Common.{◌≡◌, ℕ, ◌<◌, ◌≤◌, max, List, [], ◌∷◌, sum, Some, None, Option, refl, inl, inr, arith}
use Rattle.std.proofs.lemmas.Grind.{common_steps}
use Rattle.std.proofs.lemmas.Bool.{cases_lt}
use Rattle.board.specs.Side.{on}
use Rattle.board.specs.Position.{Position}
use Rattle.turns.specs.Roll.{rolled}
use Rattle.turns.specs.Runs.{Move, Most}
use Rattle.turns.specs.Turns.{Allowed, Playable}
use Rattle.listing.specs.Listing.{Listing}
use Rattle.listing.specs.Order.{longest, die_due, listed}
use Rattle.listing.specs.Showing.{Dues}
use Rattle.listing.specs.Laws.{Sound}
use Rattle.listing.proofs.Unique.{one-listing}
use Rattle.listing.proofs.Listed.{most_is, due_is, listed_is}

-- each die of a roll is there to use
pub has_first : (x y : ℕ) → x ≤ 6 → 0 < on (rolled x y) x
has_first x y l = grind (arith, common_steps)

has_second : (x y : ℕ) → y ≤ 6 → 0 < on (rolled x y) y
has_second x y l = grind (arith, common_steps)

larger : (b : Position) (x y : ℕ) → x ≤ 6 → y ≤ 6 → Playable b x → Playable b y → Playable b (max x y) × (0 < on (rolled x y) (max x y))
larger b x y i j p q =
    elim (cases_lt x y)
    [ inl l ↦ (let e : max x y ≡ y = omega arith in rw e (q, has_second x y j)) | inr l ↦ (let e : max x y ≡ x = omega arith in rw e (p, has_first x y i)) ]

pub some_allowed : (b : Position) (x y : ℕ) → Sound b → x ≤ 6 → y ≤ 6 → (t : List Move) × Allowed b x y t
some_allowed b x y o i j = by_due (die_due b x y n) (due_is b x y n o)
  where
    n : ℕ
    n = longest (sum (rolled x y)) b (rolled x y)

    most : Most b (rolled x y) n
    most = most_is b (rolled x y) o

    by_due : (due : Option ℕ) → Dues b x y n due → (t : List Move) × Allowed b x y t
    by_due None no' =
        let s = most.some in
        (s.0, (s.1, inr ((λ ms run. omega (arith, s.2, most.none ms run)), λ e. absurd (no' (omega (arith, s.2, e.0), e.1, e.2, e.3)))))
    by_due (Some due) way =
        let l = larger b x y i j way.0.2 way.0.3 in
        ((l.0.0, max x y) ∷ [], ((l.1, l.0.1, tt), inr ((λ ms run. omega (arith, way.0.0, most.none ms run)), λ _. refl)))

-- any listing is the one that is reckoned
pub the_listing : (b : Position) (x y : ℕ) (ts : List (List Move)) → Sound b → Listing b x y ts → ts ≡ listed b x y
the_listing b x y ts o l = one-listing b x y ts (listed b x y) l (listed_is b x y o)
