-- In an ending the allowed turns are the runs that use all the dice, and those that bear off the last checker.
use Rattle.std.proofs.Common.{◌≡◌, ℕ, suc, ◌<◌, ◌≤◌, eqb, ◌⊎◌, None, List, [], ◌∷◌, length, get_or, set, replicate, sum, sym, refl, ap, ◌∙◌, subst, inl, inr, arith, length-set}
use Rattle.std.proofs.lemmas.List.{get_or-set_other, get_or-replicate}
use Rattle.std.proofs.lemmas.List.Sums.{sum_by-cons, sum_by-set}
use Rattle.std.proofs.lemmas.Bool.{cases_lt, cases_Bool, eqb-false}
use Rattle.board.specs.Side.{on, less, checkers}
use Rattle.board.specs.Position.{Position}
use Rattle.board.specs.Single.{moved}
use Rattle.board.proofs.Sides.{less-sum}
use Rattle.turns.specs.Roll.{Roll, rolled}
use Rattle.turns.specs.Runs.{Move, Run, played}
use Rattle.turns.specs.Turns.{Allowed}
use Rattle.turns.proofs.Runs.{run_few}
use Rattle.listing.specs.Order.{turns, listed}
use Rattle.listing.specs.Listing.{Listing}
use Rattle.listing.proofs.Holds.{Ends, held, holds, in_order}
use Rattle.listing.proofs.Whole.{meets_none}
use Rattle.listing.proofs.Some.{the_listing}
use Rattle.endings.specs.Ending.{Home, Ending}
use Rattle.endings.proofs.Homes.{any_die, moved_home, moved_other, home_few}
use Rattle.endings.proofs.Leads.{leads}
use Rattle.endings.proofs.Lengths.{sound}

pub record Dice (dice : List ℕ) : Type 0 where
  pub long : length dice ≡ 7
  pub none : on dice 0 ≡ 0

some_left : (xs : List ℕ) → 0 < sum xs → (i : ℕ) × (i < length xs) × (0 < get_or xs i 0)
some_left [] l = absurd (omega arith)
some_left (x ∷ xs) l =
    elim (cases_lt 0 x) [
      | inl k ↦ (0, omega arith, k)
      | inr k ↦ (let r = some_left xs (omega (arith, sum_by-cons (λ y. y) x xs)) in (suc r.0, omega (arith, r.1), r.2))
    ]

less-dice : (dice : List ℕ) (d : ℕ) → Dice dice → 1 ≤ d → Dice (less dice d)
less-dice dice d o l =
    let ne : 0 ≡ d → ⊥ = λ z. omega arith in
    record { long = length-set dice d _ ∙ o.long; none = get_or-set_other dice d 0 _ 0 ne ∙ o.none }

-- a run that leaves a die and a checker can be made longer
longer : (p : Position) (dice : List ℕ) (t : List Move) → Home p.own → Home p.other → Dice dice → Run p dice t → on (played p t).own 0 < checkers → length t < sum dice → (u : List Move) × Run p dice u × (length u ≡ suc (length t))
longer p dice [] a b o run ne l =
    let d = some_left dice l in
    let z : 1 ≤ d.0 = elim (cases_lt 0 d.0) [ inl k ↦ k | inr k ↦ (let e : d.0 ≡ 0 = omega arith in absurd (omega (arith, o.none, ap (λ i. on dice i) e, d.2))) ] in
    let m = any_die p d.0 a b ne z (omega (arith, d.1, o.long)) in
    ((m.0, d.0) ∷ [], (d.2, m.1, tt), refl)
longer p dice (m ∷ ms) a b o run ne l =
    let other = moved_other p m.0 m.1 a b run.1 in
    let w : m.1 < length dice = omega (arith, o.long, run.1.die) in
    let r = longer (moved p m.0 m.1) (less dice m.1) ms (moved_home p m.0 m.1 a b run.1) (subst Home (sym other) b)
    (less-dice dice m.1 o run.1.die.0) run.2 ne (omega (arith, less-sum dice m.1 w run.0))
    in
    (m ∷ r.0, (run.0, run.1, r.1), ap suc r.2)

rolled-dice : (x y : ℕ) → 1 ≤ x → 1 ≤ y → Dice (rolled x y)
rolled-dice x y i j =
    let a : 0 ≡ x → ⊥ = λ z. omega arith in
    let b : 0 ≡ y → ⊥ = λ z. omega arith in
    elim (cases_Bool (eqb x y)) [
      | inl e ↦ rw e (record { long = length-set (replicate {A = ℕ} 7 0) x 4; none = get_or-set_other {A = ℕ} (replicate 7 0) x 0 4 0 a })
      | inr e ↦
          rw e
          (record {
            long = length-set (set (replicate {A = ℕ} 7 0) x 1) y 1 ∙ length-set (replicate {A = ℕ} 7 0) x 1;
            none = get_or-set_other {A = ℕ} (set (replicate 7 0) x 1) y 0 1 0 b ∙ get_or-set_other {A = ℕ} (replicate 7 0) x 0 1 0 a;
          })
    ]

rolled-two : (x y : ℕ) → x ≤ 6 → y ≤ 6 → 2 ≤ sum (rolled x y)
rolled-two x y i j =
    elim (cases_Bool (eqb x y)) [
      | inl e ↦ rw e (omega (arith, sum_by-set (λ v. v) (replicate 7 0) x 4 0 (omega arith), empty x i))
      | inr e ↦
          (let l : y < length (set (replicate {A = ℕ} 7 0) x 1) = rw (length-set (replicate {A = ℕ} 7 0) x 1) (omega arith) in
          let z : get_or (set (replicate {A = ℕ} 7 0) x 1) y 0 ≡ 0 = get_or-set_other {A = ℕ} (replicate 7 0) x y 1 0 (λ w. eqb-false x y e (sym w)) ∙ empty y j in
          rw e (omega (arith, sum_by-set (λ v. v) (replicate 7 0) x 1 0 (omega arith), empty x i, sum_by-set (λ v. v) (set (replicate 7 0) x 1) y 1 0 l, z)))
    ]
  where
    empty : (k : ℕ) → k ≤ 6 → get_or (replicate {A = ℕ} 7 0) k 0 ≡ 0
    empty k l = get_or-replicate {A = ℕ} 7 k 0 0 (omega arith)

pub full_listing : (p : Position) (x y : ℕ) → Ending p → Roll x y → Listing p x y (turns None (sum (rolled x y)) p (rolled x y))
unfolding Ends
full_listing p x y e d =
    record {
      only = λ t m. let h = held None (sum (rolled x y)) p (rolled x y) t (sound p e) m in done t h.0 h.2.1;
      every = λ t a. holds None (sum (rolled x y)) p (rolled x y) t (sound p e) a.0 (meets_none p t) (run_few p (rolled x y) t a.0, ends t a);
      ordered = in_order None (sum (rolled x y)) p (rolled x y);
    }
  where
    done : (t : List Move) → Run p (rolled x y) t → (length t ≡ sum (rolled x y)) ⊎ (on (played p t).own 0 ≡ checkers) → Allowed p x y t
    done t run (inl z) = (run, inr ((λ ms run. omega (arith, z, run_few p (rolled x y) ms run)), λ f. absurd (omega (arith, z, f.0, rolled-two x y d.0.1 d.1.1))))
    done [] run (inr z) = absurd (omega (arith, e.mine))
    done (m ∷ ms) run (inr z) = (run, inl (omega arith, z))

    ends : (t : List Move) → Allowed p x y t → (length t ≡ sum (rolled x y)) ⊎ (on (played p t).own 0 ≡ checkers)
    ends t (run, inl f) = inr f.1
    ends t (run, inr f) =
        elim (cases_lt (length t) (sum (rolled x y))) [
          | inr m ↦ inl (omega (arith, run_few p (rolled x y) t run))
          | inl m ↦
              (let few = home_few (played p t).own (leads p (rolled x y) t e.own e.other run).own in
              elim (cases_lt (on (played p t).own 0) checkers) [
                | inr z ↦ inr (omega arith)
                | inl z ↦
                    (let u = longer p (rolled x y) t e.own e.other (rolled-dice x y d.0.0 d.1.0) run z m in
                    absurd (omega (arith, u.2, f.0 u.0 u.1)))
              ])
        ]

pub listed_full : (p : Position) (x y : ℕ) → Ending p → Roll x y → listed p x y ≡ turns None (sum (rolled x y)) p (rolled x y)
listed_full p x y e d = sym (the_listing p x y _ (sound p e) (full_listing p x y e d))
