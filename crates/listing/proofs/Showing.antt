-- Showing what is left of the listing.
use Rattle.std.proofs.Common.{◌≡◌, ℕ, zero, suc, ◌-◌, ◌≤◌, true, false, ◌⊎◌, List, [], ◌∷◌, ◌++◌, map, Option, sym, refl, subst, inl, inr, append_assoc, append-nil, arith}
use Rattle.std.proofs.lemmas.Bool.Decides.{nat_tests}
use Rattle.board.specs.Side.{on, less}
use Rattle.board.specs.Position.{Position}
use Rattle.board.specs.Single.{moved}
use Rattle.turns.specs.Runs.{Move, played}
use Rattle.listing.specs.Order.{off, down, fits, turns}
use Rattle.listing.specs.Showing.{Shown}
use Rattle.listing.proofs.Fits.{begun, by_start, by_die}

-- what is yet to be shown from v on, as it ends, ends what was to be shown from the start on
pub record Leads {V : Type 0} (step : V → List Move → Position → V → Type 0) (made : List Move) (b : Position) (v : V) (ts : List (List Move)) (first : V) (all : List (List Move)) : Type 0 where
  pub ends : (z : V) → Shown step made b v ts z → Shown step made b first all z

module _ {V : Type 0} (step : V → List Move → Position → V → Type 0) (made : List Move) (b : Position) where
  shown_append : (v w z : V) (ts us : List (List Move)) → Shown step made b v ts w → Shown step made b w us z → Shown step made b v (ts ++ us) z
  shown_append v w z [] us e s = subst (λ x. Shown step made b x us z) e s
  shown_append v w z (t ∷ ts) us r s = (r.0, r.1, shown_append r.0 w z ts us r.2 s)

  -- what is shown behind one move more
  pub shown_behind : (m : Move) (v w : V) (ts : List (List Move)) → Shown step (made ++ (m ∷ [])) (moved b m.0 m.1) v ts w → Shown step made b v (map (λ t. m ∷ t) ts) w
  shown_behind m v w [] r = r
  shown_behind m v w (t ∷ ts) r =
      (r.0, subst (λ ms. step v ms (played (moved b m.0 m.1) t) r.0) (append_assoc made (m ∷ []) t) r.1, shown_behind m r.0 w ts r.2)

  -- one turn of a loop that counts down
  pub step_down : (F : ℕ → List (List Move)) (k : ℕ) (v w first : V) (all : List (List Move)) → 1 ≤ k → Shown step made b v (F k) w → Leads step made b v (down F k) first all → Leads step made b w (down F (k - 1)) first all
  unfolding down
  step_down F zero v w first all l s inv = absurd (omega arith)
  step_down F (suc k) v w first all l s inv =
      let e : suc k - 1 ≡ k = omega arith in
      rw e (record { ends = λ z r. inv.ends z (shown_append v w z (F (suc k)) (down F k) s r) })

module _ {V : Type 0} (step : V → List Move → Position → V → Type 0) (made : List Move) (due : Option ℕ) (n : ℕ) (b : Position) (dice : List ℕ) where
  -- a start from which a turn may begin, and one from which none may
  pub start_on : (d s : ℕ) (v w first : V) (all : List (List Move)) → 1 ≤ s → fits due b dice s d ≡ true → Shown step (made ++ ((s, d) ∷ [])) (moved b s d) v (turns due n (moved b s d) (less dice d)) w → Leads step made b v (by_start due n b dice d s) first all → Leads step made b w (by_start due n b dice d (s - 1)) first all
  start_on d s v w first all l f r = step_down step made b (begun due n b dice d) s v w first all l (rw f (shown_behind step made b (s, d) v w _ r))

  pub start_off : (d s : ℕ) (v first : V) (all : List (List Move)) → 1 ≤ s → fits due b dice s d ≡ false → Leads step made b v (by_start due n b dice d s) first all → Leads step made b v (by_start due n b dice d (s - 1)) first all
  start_off d s v first all l f = step_down step made b (begun due n b dice d) s v v first all l (rw f refl)

  -- a die whose starts are all done, and one that is not left
  pub die_on : (d s : ℕ) (v w first : V) (all : List (List Move)) → 1 ≤ d → s ≤ 1 → Leads step made b w (by_start due n b dice d (s - 1)) v (by_start due n b dice d 25) → Leads step made b v (by_die due n b dice d) first all → Leads step made b w (by_die due n b dice (d - 1)) first all
  unfolding down
  die_on d s v w first all l k inner =
      let z : s - 1 ≡ 0 = omega arith in
      step_down step made b (λ e. by_start due n b dice e 25) d v w first all l (inner.ends w (rw z refl))

  none_begun : (d s : ℕ) (v : V) → on dice d ≡ 0 → Shown step made b v (by_start due n b dice d s) v
  unfolding down
  none_begun d zero v z = refl
  none_begun d (suc s) v z = let f : fits due b dice (suc s) d ≡ false = grind (arith, nat_tests) in rw f (none_begun d s v z)

  pub die_off : (d : ℕ) (v first : V) (all : List (List Move)) → 1 ≤ d → on dice d ≡ 0 → Leads step made b v (by_die due n b dice d) first all → Leads step made b v (by_die due n b dice (d - 1)) first all
  die_off d v first all l z = step_down step made b (λ e. by_start due n b dice e 25) d v v first all l (none_begun d 25 v z)

-- a turn that ends here, and all that go on
pub one_shown : {V : Type 0} (step : V → List Move → Position → V → Type 0) (made : List Move) (due : Option ℕ) (n : ℕ) (b : Position) (dice : List ℕ) (v w : V) → (n ≡ 0) ⊎ (off b ≡ true) → step v made b w → Shown step made b v (turns due n b dice) w
unfolding turns
one_shown step made due zero b dice v w e s = (w, subst (λ ms. step v ms b w) (sym (append-nil made)) s, refl)
one_shown step made due (suc n) b dice v w (inl e) s = absurd (omega (arith, e))
one_shown step made due (suc n) b dice v w (inr o) s = rw o (w, subst (λ ms. step v ms b w) (sym (append-nil made)) s, refl)

pub all_shown : {V : Type 0} (step : V → List Move → Position → V → Type 0) (made : List Move) (due : Option ℕ) (n : ℕ) (b : Position) (dice : List ℕ) (d : ℕ) (v w : V) → (n ≡ 0 → ⊥) → off b ≡ false → d ≤ 1 → Leads step made b w (by_die due (n - 1) b dice (d - 1)) v (by_die due (n - 1) b dice 6) → Shown step made b v (turns due n b dice) w
unfolding turns down
all_shown step made due zero b dice d v w ne o k inv = absurd (ne refl)
all_shown step made due (suc n) b dice d v w ne o k inv =
    let z : d - 1 ≡ 0 = omega arith in
    let e : suc n - 1 ≡ n = omega arith in
    rw o (rw e at (inv.ends w (rw z refl)))
