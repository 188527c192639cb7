-- The test `may` decides `Legal`.
use Rattle.std.proofs.Common.{◌≡◌, ℕ, ◌+◌, ◌-◌, ◌<◌, ◌≤◌, true, cond, ◌&&◌, ◌||◌, List, length, get_or, drop, Decides, sum, ◌==◌, nat_lt, nat_le, arith, length-drop}
use Rattle.std.specs.List.{AllByRecursion}
use Rattle.std.proofs.lemmas.List.{get_or-drop}
use Rattle.std.proofs.lemmas.List.Sums.{get_or-le-sum_by}
use Rattle.std.proofs.ByRecursion.{sum_by_le, All-from_get_or}
use Rattle.std.proofs.lemmas.Bool.Decides.{nat_tests}
use Rattle.std.proofs.lemmas.Bool.{eqb-true, eq-eqb}
use Rattle.board.specs.Side.{on}
use Rattle.board.specs.Position.{Position}
use Rattle.board.specs.Single.{Legal}
use Rattle.listing.specs.Order.{clear, may}

pub clear_true : (side : List ℕ) (p : ℕ) → length side ≡ 26 → clear side p ≡ true → (q : ℕ) → p < q → q ≤ 25 → on side q ≡ 0
clear_true side p l h q k m =
    let e : (p + 1) + (q - (p + 1)) ≡ q = omega arith in
    let w : q - (p + 1) < length (drop (p + 1) side) = simp length-drop (omega arith) in
    let at : get_or (drop (p + 1) side) (q - (p + 1)) 0 ≡ on side q = rw (get_or-drop (p + 1) side (q - (p + 1)) 0, e) in
    omega (arith, eqb-true (sum (drop (p + 1) side)) 0 h, at, get_or-le-sum_by (λ x. x) (drop (p + 1) side) (q - (p + 1)) 0 w)

pub clear_from : (side : List ℕ) (p : ℕ) → length side ≡ 26 → ((q : ℕ) → p < q → q ≤ 25 → on side q ≡ 0) → clear side p ≡ true
clear_from side p l h =
    let every : AllByRecursion (λ x. x ≤ 0) (drop (p + 1) side) =
    All-from_get_or (λ x. x ≤ 0) (drop (p + 1) side) 0
    (λ i k.
    let k' : i < length side - (p + 1) = rw length-drop at k in
    rw (get_or-drop (p + 1) side i 0) (omega (arith, h ((p + 1) + i) (omega arith) (omega arith))))
    in
    eq-eqb (sum (drop (p + 1) side)) 0 (omega (arith, sum_by_le (λ x. x) 0 (drop (p + 1) side) every))

module _ (b : Position) (s d : ℕ) (l : length b.own ≡ 26) where
  to : may b s d ≡ true → Legal b s d
  to h =
      record {
        die = grind (arith, nat_tests);
        start = grind (arith, nat_tests);
        has = grind (arith, nat_tests);
        bar = λ k. grind (arith, nat_tests);
        free = λ k. grind (arith, nat_tests);
        home = λ k. clear_true b.own 6 l (grind (arith, nat_tests));
        far = λ k. clear_true b.own s l (grind (arith, nat_tests));
      }

  from : Legal b s d → may b s d ≡ true
  from g =
      let six : s ≤ d → clear b.own 6 ≡ true = λ k. clear_from b.own 6 l (g.home k) in
      let far : s < d → clear b.own s ≡ true = λ k. clear_from b.own s l (g.far k) in
      let bar : (on b.own 25 == 0 || s == 25) ≡ true = grind (arith, nat_tests, g.bar) in
      let last : cond (nat_lt d s) (nat_le (on b.other (25 - (s - d))) 1) (clear b.own 6 && (s == d || clear b.own s)) ≡ true =
      grind (arith, nat_tests, six, far, g.free)
      in
      grind (arith, nat_tests, g.die, g.start, g.has, bar, last)

  pub decides : Decides (may b s d) (Legal b s d)
  decides = (to, from)
