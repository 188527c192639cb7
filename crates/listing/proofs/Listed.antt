-- `listed` is the listing.
use Rattle.std.proofs.Common.{◌≡◌, ℕ, zero, suc, ◌<◌, ◌≤◌, max, cond, not, ◌&&◌, ◌⊎◌, List, [], ◌∷◌, length, sum, None, ◌==◌, ◌≢◌, nat_lt, sym, refl, ap, ◌∙◌, subst, inl, inr, arith}
use Rattle.std.proofs.lemmas.Bool.{cases_lt, cases_Bool}
use Rattle.std.proofs.lemmas.Bool.Decides.{nat_tests}
use Rattle.board.specs.Side.{less}
use Rattle.board.specs.Position.{Position}
use Rattle.board.specs.Single.{moved}
use Rattle.turns.specs.Runs.{Move, Run, Most}
use Rattle.turns.specs.Roll.{rolled}
use Rattle.turns.specs.Turns.{Playable}
use Rattle.turns.proofs.Runs.{run_few}
use Rattle.listing.specs.Order.{may, down, fits, greatest, longest, starts, die_due, listed}
use Rattle.listing.specs.Showing.{Dues}
use Rattle.listing.specs.Laws.{Sound}
use Rattle.listing.specs.Listing.{In, Listing}
use Rattle.listing.proofs.Test.{decides}
use Rattle.listing.proofs.In.{in_down, down_in, in_cond, in_moves, moves_in}
use Rattle.listing.proofs.Holds.{sound-moved}
use Rattle.listing.proofs.Fits.{fits_parts, fits_on}
use Rattle.listing.proofs.Whole.{listing}

pub greatest_bound : (x : ℕ) (xs : List ℕ) → In x xs → x ≤ greatest xs
greatest_bound x [] i = absurd i
greatest_bound x (y ∷ ys) (inl e) = omega (arith, e)
greatest_bound x (y ∷ ys) (inr i) = omega (arith, greatest_bound x ys i)

pub greatest_in : (xs : List ℕ) → (greatest xs ≡ 0) ⊎ In (greatest xs) xs
greatest_in [] = inl refl
greatest_in (x ∷ xs) =
    elim (cases_lt x (greatest xs)) [
      | inl k ↦ (let e : max x (greatest xs) ≡ greatest xs = omega arith in elim (greatest_in xs) [ inl z ↦ absurd (omega arith) | inr i ↦ inr (inr (subst (λ v. In v xs) (sym e) i)) ])
      | inr k ↦ inr (inl (omega arith))
    ]

pub some_in : {X : Type 0} (xs : List X) → 0 < length xs → (x : X) × In x xs
some_in [] l = absurd (omega arith)
some_in (x ∷ xs) l = (x, inl refl)

pub in_some : {X : Type 0} (x : X) (xs : List X) → In x xs → 0 < length xs
in_some x [] i = absurd i
in_some x (y ∷ ys) i = omega arith

abbrev tried : ℕ → Position → List ℕ → ℕ → ℕ → List ℕ
tried n b dice d s = cond (fits None b dice s d) (suc (longest n (moved b s d) (less dice d)) ∷ []) []

pub longest_bound : (n : ℕ) (b : Position) (dice : List ℕ) (ms : List Move) → Sound b → Run b dice ms → length ms ≤ n → length ms ≤ longest n b dice
unfolding longest
longest_bound n b dice [] o run l = omega arith
longest_bound zero b dice (m ∷ ms) o run l = absurd (omega arith)
longest_bound (suc n) b dice (m ∷ ms) o run l =
    let f = fits_on None b dice m.0 m.1 o.long run.0 run.1 refl in
    let r = longest_bound n (moved b m.0 m.1) (less dice m.1) ms (sound-moved b m.0 m.1 run.1 o) run.2 (omega arith) in
    let v = suc (longest n (moved b m.0 m.1) (less dice m.1)) in
    let i : In v (tried n b dice m.1 m.0) = rw f (inl refl) in
    omega (arith, r, greatest_bound v _ (moves_in v (tried n b dice) m.1 m.0 run.1.die run.1.start i))

pub longest-reached : (n : ℕ) (b : Position) (dice : List ℕ) → Sound b → (ms : List Move) × Run b dice ms × (length ms ≡ longest n b dice)
unfolding longest
longest-reached zero b dice o = ([], tt, refl)
longest-reached (suc n) b dice o =
    elim (greatest_in (down (λ d. down (tried n b dice d) 25) 6)) [
      | inl z ↦ ([], tt, sym z)
      | inr i ↦
          (let m = in_moves _ (tried n b dice) i in
          let c = in_cond _ (fits None b dice m.1 m.0) _ m.2 in
          let f = fits_parts None b dice m.1 m.0 o.long c.0 in
          let r = longest-reached n (moved b m.1 m.0) (less dice m.0) (sound-moved b m.1 m.0 f.1 o) in
          elim c.1 [ inl e ↦ ((m.1, m.0) ∷ r.0, (f.0, f.1, r.1), ap suc r.2 ∙ sym e) | inr z ↦ absurd z ])
    ]

pub most_is : (b : Position) (dice : List ℕ) → Sound b → Most b dice (longest (sum dice) b dice)
most_is b dice o = record { some = longest-reached (sum dice) b dice o; none = λ ms run. longest_bound (sum dice) b dice ms o run (run_few b dice ms run) }

starts_some : (b : Position) (d : ℕ) → Sound b → 0 < length (starts b d) → Playable b d
starts_some b d o l =
    let i = some_in (starts b d) l in
    let s = in_down i.0 (λ s. cond (may b s d) (s ∷ []) []) 25 i.1 in
    let c = in_cond i.0 (may b s.0 d) _ s.3 in
    (s.0, (decides b s.0 d o.long).0 c.0)

some_starts : (b : Position) (d : ℕ) → Sound b → Playable b d → 0 < length (starts b d)
some_starts b d o p =
    let m = (decides b p.0 d o.long).1 p.1 in
    let i : In p.0 (cond (may b p.0 d) (p.0 ∷ []) []) = rw m (inl refl) in
    in_some p.0 (starts b d) (down_in p.0 (λ s. cond (may b s d) (s ∷ []) []) 25 p.0 p.1.start.0 p.1.start.1 i)

pub due_is : (b : Position) (x y n : ℕ) → Sound b → Dues b x y n (die_due b x y n)
unfolding die_due
due_is b x y n o =
    elim (cases_Bool (n == 1 && not (x == y) && nat_lt 0 (length (starts b x)) && nat_lt 0 (length (starts b y)))) [
      | inl e ↦
          (let far : (n ≡ 1) × (x ≢ y) × (0 < length (starts b x)) × (0 < length (starts b y)) =
          (grind (arith, nat_tests), λ z. grind (arith, nat_tests), grind (arith, nat_tests), grind (arith, nat_tests))
          in
          rw e ((far.0, far.1, starts_some b x o far.2, starts_some b y o far.3), refl))
      | inr e ↦ rw e (λ z. grind (arith, nat_tests, z.0, z.1, some_starts b x o z.2, some_starts b y o z.3))
    ]

pub listed_is : (b : Position) (x y : ℕ) → Sound b → Listing b x y (listed b x y)
unfolding listed
listed_is b x y o = listing b x y _ _ o (most_is b (rolled x y) o) (due_is b x y _ o)
