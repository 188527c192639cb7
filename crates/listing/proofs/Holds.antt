-- What `turns` has, and in which order.
use Rattle.std.proofs.Common.{◌≡◌, ℕ, zero, suc, ◌-◌, ◌<◌, ◌≤◌, true, ◌⊎◌, List, [], ◌∷◌, length, Option, refl, ◌∙◌, inl, inr, arith, length-set}
use Rattle.std.proofs.lemmas.List.{get_or-set_other}
use Rattle.std.proofs.lemmas.List.Sums.{get_or-le-sum_by}
use Rattle.std.proofs.lemmas.Bool.{cases_Bool, eqb-true, eq-eqb}
use Rattle.board.specs.Side.{on, checkers, less}
use Rattle.board.specs.Position.{Position}
use Rattle.board.specs.Single.{Legal, moved}
use Rattle.turns.specs.Runs.{Move, Run, played}
use Rattle.board.proofs.Sides.{less-sum, shifted_complete}
use Rattle.listing.specs.Order.{off, meets, fits, turns}
use Rattle.listing.specs.Laws.{Sound}
use Rattle.listing.specs.Listing.{In, Ordered}
use Rattle.listing.proofs.Fits.{fits_parts, fits_on, begun, by_start, by_die}
use Rattle.listing.proofs.In.{in_map, map_in, in_cond, in_down, in_moves, moves_in, ordered-down, ordered-map, ordered-cond}

pub sound-moved : (b : Position) (s d : ℕ) → Legal b s d → Sound b → Sound (moved b s d)
sound-moved b s d legal o =
    record {
      long = length-set (less b.own s) (s - d) _ ∙ length-set b.own s _ ∙ o.long;
      complete = shifted_complete b.own s (s - d) (omega (arith, o.long, legal.start)) (omega (arith, o.long, legal.start)) o.complete legal.has;
    }

-- with the last checker off no move is legal
pub none_off : (b : Position) (s d : ℕ) → Sound b → Legal b s d → on b.own 0 ≡ checkers → ⊥
none_off b s d o legal e =
    let w : s < length b.own = omega (arith, o.long, legal.start) in
    let ne : ◌≡◌ {A = ℕ} 0 s → ⊥ = λ z. omega (arith, legal.start) in
    let same : on (less b.own s) 0 ≡ on b.own 0 = get_or-set_other b.own s 0 _ 0 ne in
    let l : 0 < length (less b.own s) = rw (length-set b.own s (on b.own s - 1)) (omega arith) in
    omega (arith, same, o.complete, less-sum b.own s w legal.has, get_or-le-sum_by (λ x. x) (less b.own s) 0 0 l)

-- each move meets the due die
unfoldable pub Meets : Option ℕ → Position → List Move → Type 0
Meets due b [] = Unit {0}
Meets due b (m ∷ ms) = (meets due (moved b m.0 m.1) m.1 ≡ true) × Meets due (moved b m.0 m.1) ms

unfoldable pub Ends : ℕ → Position → List Move → Type 0
Ends n b t = (length t ≤ n) × ((length t ≡ n) ⊎ (on (played b t).own 0 ≡ checkers))

pub held : (due : Option ℕ) (n : ℕ) (b : Position) (dice : List ℕ) (t : List Move) → Sound b → In t (turns due n b dice) → Run b dice t × Meets due b t × Ends n b t
unfolding turns Meets Ends
held due zero b dice t o (inl e) = rw e (tt, tt, (omega arith, inl refl))
held due zero b dice t o (inr i) = absurd i
held due (suc n) b dice t o i =
    elim (cases_Bool (off b)) [
      | inl e ↦ (let i' : In t ([] ∷ []) = rw e at i in elim i' [ inl z ↦ rw z (tt, tt, (omega arith, inr (eqb-true (on b.own 0) checkers e))) | inr z ↦ absurd z ])
      | inr e ↦
          (let i' : In t (by_die due n b dice 6) = rw e at i in
          let m = in_moves t (begun due n b dice) i' in
          let c = in_cond t (fits due b dice m.1 m.0) _ m.2 in
          let u = in_map (λ v. (m.1, m.0) ∷ v) t _ c.1 in
          let f = fits_parts due b dice m.1 m.0 o.long c.0 in
          let r = held due n (moved b m.1 m.0) (less dice m.0) u.0 (sound-moved b m.1 m.0 f.1 o) u.2 in
          rw u.1 ((f.0, f.1, r.0), (f.2, r.1), (omega (arith, r.2.0), elim r.2.1 [ inl k ↦ inl (omega arith) | inr k ↦ inr k ])))
    ]

pub holds : (due : Option ℕ) (n : ℕ) (b : Position) (dice : List ℕ) (t : List Move) → Sound b → Run b dice t → Meets due b t → Ends n b t → In t (turns due n b dice)
unfolding turns Meets Ends
holds due zero b dice [] o run meets ends = inl refl
holds due zero b dice (m ∷ ms) o run meets ends = absurd (omega (arith, ends.0))
holds due (suc n) b dice [] o run meets ends =
    elim ends.1 [ inl e ↦ absurd (omega arith) | inr e ↦ (let w = eq-eqb (on b.own 0) checkers e in rw w (inl refl)) ]
holds due (suc n) b dice (m ∷ ms) o run meets ends =
    elim (cases_Bool (off b)) [
      | inl e ↦ absurd (none_off b m.0 m.1 o run.1 (eqb-true (on b.own 0) checkers e))
      | inr e ↦
          (let f = fits_on due b dice m.0 m.1 o.long run.0 run.1 meets.0 in
          let ends' : Ends n (moved b m.0 m.1) ms = (omega (arith, ends.0), elim ends.1 [ inl k ↦ inl (omega arith) | inr k ↦ inr k ]) in
          let u = holds due n (moved b m.0 m.1) (less dice m.1) ms (sound-moved b m.0 m.1 run.1 o) run.2 meets.1 ends' in
          let i : In (m ∷ ms) (begun due n b dice m.1 m.0) = rw f (map_in (λ v. (m.0, m.1) ∷ v) ms _ u) in
          rw e (moves_in (m ∷ ms) (begun due n b dice) m.1 m.0 run.1.die run.1.start i))
    ]

begins : (due : Option ℕ) (n : ℕ) (b : Position) (dice : List ℕ) (d s : ℕ) (t : List Move) → In t (begun due n b dice d s) → (u : List Move) × (t ≡ (s, d) ∷ u)
begins due n b dice d s t i =
    let c = in_cond t (fits due b dice s d) _ i in
    let u = in_map (λ v. (s, d) ∷ v) t _ c.1 in
    (u.0, u.1)

pub in_order : (due : Option ℕ) (n : ℕ) (b : Position) (dice : List ℕ) → Ordered (turns due n b dice)
unfolding turns
in_order due zero b dice = (λ u i. absurd i, tt)
in_order due (suc n) b dice =
    elim (cases_Bool (off b)) [
      | inl e ↦ rw e (λ u i. absurd i, tt)
      | inr e ↦
          rw e
          (ordered-down (λ e. by_start due n b dice e 25) 6
          (λ d. ordered-down (begun due n b dice d) 25
          (λ s. ordered-cond (fits due b dice s d) _ (ordered-map (s, d) _ (in_order due n (moved b s d) (less dice d))))
          (λ s s' x y k i j.
          let p = begins due n b dice d s x i in
          let q = begins due n b dice d s' y j in
          rw (p.1, q.1) (inr (inl (refl, k)))))
          (λ d d' x y k i j.
          let i' = in_down x (begun due n b dice d) 25 i in
          let j' = in_down y (begun due n b dice d') 25 j in
          let p = begins due n b dice d i'.0 x i'.3 in
          let q = begins due n b dice d' j'.0 y j'.3 in
          rw (p.1, q.1) (inl k)))
    ]
