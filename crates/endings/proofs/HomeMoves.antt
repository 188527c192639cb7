-- Single moves of home sides that are written by seven counts.
use Rattle.std.proofs.Common.{◌≡◌, ℕ, ◌+◌, ◌-◌, ◌<◌, ◌≤◌, Bool, true, false, cond, ◌&&◌, ◌||◌, eqb, ltb, leb, List, ◌++◌, length, drop, replicate, sum, ap, ◌∙◌, inl, inr, arith, length-set}
use Rattle.std.proofs.lemmas.List.{set-append_left, drop-append-le}
use Rattle.std.proofs.lemmas.List.Sums.{sum_by-append}
use Rattle.std.proofs.lemmas.Bool.{cases_lt, eq-eqb, lt-ltb, le-ltb, le-leb, or_left, and_left, and_right}
use Rattle.board.specs.Side.{on, less, shifted}
use Rattle.board.specs.Position.{Position}
use Rattle.board.specs.Single.{moved}
use Rattle.listing.specs.Order.{clear, may}
use Rattle.listing.proofs.Test.{clear_from}
use Rattle.endings.proofs.Wide.{wide, inside, beyond, wide_long}

abbrev pub at : List ℕ → List ℕ → Position
at a b = record { own = wide a; other = wide b }

-- the test of a legal move
abbrev pub home_may : List ℕ → ℕ → ℕ → Bool
home_may a s d =
    let home = let far = clear a s in eqb s d || far in
    let rest = cond (ltb d s) true home in
    ltb 0 (on a s) && true && rest

shape : (u v w x h h' y r r' : Bool) → u ≡ true → v ≡ true → w ≡ true → x ≡ true → h ≡ h' → y ≡ true → r ≡ r' → (u && v && w && x && h && y && r) ≡ (h' && true && r')
shape u v w x h h' y r r' a b c d e f g = rw (a, b, c, d, e, f, g)

module _ (a : List ℕ) (l : length a ≡ 7) where
  clear_home : clear (wide a) 6 ≡ true
  clear_home = clear_from (wide a) 6 (wide_long a l) (beyond a l)

  clear-inside : (s : ℕ) → s ≤ 6 → clear (wide a) s ≡ clear a s
  clear-inside s i =
      let e : drop (s + 1) (wide a) ≡ drop (s + 1) a ++ replicate 19 0 = drop-append-le (s + 1) a (replicate 19 0) (omega (arith, l)) in
      let f : sum (drop (s + 1) a ++ replicate 19 0) ≡ sum (drop (s + 1) a) = omega (arith, sum_by-append (λ x. x) (drop (s + 1) a) (replicate 19 0)) in
      rw (e, f)

  wide-less : (s : ℕ) → s ≤ 6 → less (wide a) s ≡ wide (less a s)
  wide-less s i = rw (inside a l s i) (set-append_left a (replicate 19 0) s (on a s - 1) (omega (arith, l)))

module _ (a b : List ℕ) (l : length a ≡ 7) (m : length b ≡ 7) (s d : ℕ) (i : 1 ≤ s) (j : s ≤ 6) (k : 1 ≤ d) (n : d ≤ 6) where
  less_long : length (less a s) ≡ 7
  less_long = length-set a s _ ∙ l

  pub shifted_long : length (shifted a s (s - d)) ≡ 7
  shifted_long = length-set (less a s) (s - d) _ ∙ less_long

  wide-shifted : shifted (wide a) s (s - d) ≡ wide (shifted a s (s - d))
  wide-shifted =
      rw (wide-less a l s j, inside (less a s) less_long (s - d) (omega arith))
      (set-append_left (less a s) (replicate 19 0) (s - d) (on (less a s) (s - d) + 1) (omega (arith, less_long)))

  free_quick : d < s → on (wide b) (25 - (s - d)) ≡ 0
  free_quick h = beyond b m (25 - (s - d)) (omega arith) (omega arith)

  rest-quick : cond (ltb d s) (leb (on (wide b) (25 - (s - d))) 1) (clear (wide a) 6 && (eqb s d || clear (wide a) s)) ≡ cond (ltb d s) true (eqb s d || clear a s)
  rest-quick =
      elim (cases_lt d s)
      [ inl h ↦ rw (lt-ltb d s h, free_quick h) | inr h ↦ rw (le-ltb d s h, clear_home a l, clear-inside a l s j) ]

  pub may-quick : may (at a b) s d ≡ home_may a s d
  may-quick =
      shape (leb 1 d) (leb d 6) (leb 1 s) (leb s 25) (ltb 0 (on (wide a) s)) (ltb 0 (on a s)) (eqb (on (wide a) 25) 0 || eqb s 25) _ _
      (le-leb 1 d k) (le-leb d 6 n) (le-leb 1 s i) (le-leb s 25 (omega arith)) (ap (ltb 0) (inside a l s j))
      (or_left (eqb (on (wide a) 25) 0) (eqb s 25) (eq-eqb (on (wide a) 25) 0 (beyond a l 25 (omega arith) (omega arith)))) rest-quick

  other_quick : (moved (at a b) s d).other ≡ wide b
  other_quick =
      elim (cases_lt d s)
      [ inl h ↦ rw (lt-ltb d s h, free_quick h) | inr h ↦ rw (le-ltb d s h) ]

  pub moved-quick : moved (at a b) s d ≡ at (shifted a s (s - d)) b
  moved-quick = λ t. record { own = wide-shifted t; other = other_quick t }

pub no_start : (a b : List ℕ) (s d : ℕ) → on (wide a) s ≡ 0 → may (at a b) s d ≡ false
no_start a b s d z =
    let e : ltb 0 (on (wide a) s) ≡ false = le-ltb 0 (on (wide a) s) (omega (arith, z)) in
    and_left _ _ (and_left _ _ (and_right _ (ltb 0 (on (wide a) s)) e))
