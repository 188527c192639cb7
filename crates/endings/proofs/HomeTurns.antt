-- Where the turns of a home side lead, on seven counts.
use Rattle.std.proofs.Common.{◌≡◌, ℕ, zero, suc, ◌-◌, ◌<◌, ◌≤◌, Bool, true, false, cond, eqb, ltb, None, List, [], ◌∷◌, map, length, sym, refl, ap, ◌∙◌, inl, inr, arith}
use Rattle.std.proofs.lemmas.List.{map-append}
use Rattle.std.proofs.Math.Bool.{and-true}
use Rattle.std.proofs.lemmas.Bool.{cases_lt, cond-false, ltb-false}
use Rattle.board.specs.Side.{on, less, shifted, checkers}
use Rattle.board.specs.Position.{Position}
use Rattle.board.specs.Single.{moved}
use Rattle.listing.specs.Order.{may, off, down, fits}
use Rattle.endings.proofs.Wide.{inside, beyond}
use Rattle.endings.proofs.Afters.{afters, die_off}
use Rattle.endings.proofs.HomeMoves.{at, home_may, may-quick, moved-quick, shifted_long, no_start}

-- the sides that runs of n moves lead to, and those that bear off the last checker before
unfoldable pub home_afters : ℕ → List ℕ → List ℕ → List (List ℕ)
home_afters zero a dice = a ∷ []
home_afters (suc n) a dice =
    let all =
    down (λ d.
    let block = down (λ s. let r = home_afters n (shifted a s (s - d)) (less dice d) in cond (home_may a s d) r []) 6 in
    cond (ltb 0 (on dice d)) block []) 6
    in
    cond (eqb (on a 0) checkers) (a ∷ []) all

down-map : {X Y : Type 0} (g : X → Y) (f : ℕ → List Y) (h : ℕ → List X) (n : ℕ) → ((k : ℕ) → 1 ≤ k → k ≤ n → f k ≡ map g (h k)) → down f n ≡ map g (down h n)
unfolding down
down-map g f h zero e = refl
down-map g f h (suc n) e = rw (e (suc n) (omega arith) (omega arith), down-map g f h n (λ k i j. e k i (omega arith))) (sym (map-append g (h (suc n)) (down h n)))

down_cut : {X : Type 0} (f : ℕ → List X) (n : ℕ) → 6 ≤ n → ((k : ℕ) → 6 < k → k ≤ n → f k ≡ []) → down f n ≡ down f 6
unfolding down
down_cut f zero l e = absurd (omega arith)
down_cut f (suc n) l e =
    elim (cases_lt 6 (suc n)) [
      | inl k ↦ rw (e (suc n) k (omega arith)) (down_cut f n (omega arith) (λ i u v. e i u (omega arith)))
      | inr k ↦ (let z : suc n ≡ 6 = omega arith in ap (down f) z)
    ]

abbrev block : ℕ → List ℕ → List ℕ → List ℕ → ℕ → ℕ → List Position
block n a b dice d s = cond (fits None (at a b) dice s d) (afters None n (moved (at a b) s d) (less dice d)) []

abbrev home_block : ℕ → List ℕ → List ℕ → ℕ → ℕ → List (List ℕ)
home_block n a dice d s = cond (home_may a s d) (home_afters n (shifted a s (s - d)) (less dice d)) []

cond_map : {X Y : Type 0} (g : X → Y) (c e : Bool) (ys : List Y) (xs : List X) → c ≡ e → (e ≡ true → ys ≡ map g xs) → cond c ys [] ≡ map g (cond e xs [])
cond_map g c true ys xs z h = rw z (h refl)
cond_map g c false ys xs z h = rw z

fits-quick : (a b dice : List ℕ) (s d : ℕ) → ltb 0 (on dice d) ≡ true → fits None (at a b) dice s d ≡ may (at a b) s d
fits-quick a b dice s d e = rw e (and-true (may (at a b) s d))

when : {X Y : Type 0} (g : X → Y) (c : Bool) (ys : List Y) (xs : List X) → (c ≡ true → ys ≡ map g xs) → (c ≡ false → ys ≡ []) → ys ≡ map g (cond c xs [])
when g true ys xs f h = f refl
when g false ys xs f h = h refl

top : (a b : List ℕ) (c e : Bool) (ps : List Position) (qs : List (List ℕ)) → c ≡ e → ps ≡ map (λ c. at c b) qs → cond c (at a b ∷ []) ps ≡ map (λ c. at c b) (cond e (a ∷ []) qs)
top a b c true ps qs z h = rw z
top a b c false ps qs z h = rw z h

module _ (n : ℕ) (a b dice : List ℕ) (l : length a ≡ 7) (m : length b ≡ 7) (again : (c dice : List ℕ) → length c ≡ 7 → afters None n (at c b) dice ≡ map (λ c. at c b) (home_afters n c dice)) where
  start : (d s : ℕ) → 1 ≤ d → d ≤ 6 → 1 ≤ s → s ≤ 6 → ltb 0 (on dice d) ≡ true → block n a b dice d s ≡ map (λ c. at c b) (home_block n a dice d s)
  start d s i j k h e =
      cond_map (λ c. at c b) (fits None (at a b) dice s d) (home_may a s d) _ _ (fits-quick a b dice s d e ∙ may-quick a b l m s d k h i j)
      (λ _. ap (λ p. afters None n p (less dice d)) (moved-quick a b l m s d k h i j) ∙ again (shifted a s (s - d)) (less dice d) (shifted_long a b l m s d k h i j))

  by_die : (d : ℕ) → 1 ≤ d → d ≤ 6 → down (block n a b dice d) 25 ≡ map (λ c. at c b) (cond (ltb 0 (on dice d)) (down (home_block n a dice d) 6) [])
  by_die d i j =
      when (λ c. at c b) (ltb 0 (on dice d)) (down (block n a b dice d) 25) (down (home_block n a dice d) 6)
      (λ e.
      down_cut (block n a b dice d) 25 (omega arith) (λ s k h. cond-false _ _ _ (fits-quick a b dice s d e ∙ no_start a b s d (beyond a l s k h)))
      ∙ down-map (λ c. at c b) (block n a b dice d) (home_block n a dice d) 6 (λ s k h. start d s i j k h e))
      (λ e. die_off None n (at a b) dice d (omega (arith, ltb-false 0 (on dice d) e)))

pub quick : (n : ℕ) (a b dice : List ℕ) → length a ≡ 7 → length b ≡ 7 → afters None n (at a b) dice ≡ map (λ c. at c b) (home_afters n a dice)
unfolding afters home_afters
quick zero a b dice l m = refl
quick (suc n) a b dice l m =
    top a b (off (at a b)) (eqb (on a 0) checkers) _ _ (ap (λ v. eqb v checkers) (inside a l 0 (omega arith)))
    (down-map (λ c. at c b) (λ d. down (block n a b dice d) 25) (λ d. cond (ltb 0 (on dice d)) (down (home_block n a dice d) 6) []) 6
    (by_die n a b dice l m (λ c dice' l'. quick n c b dice' l' m)))
