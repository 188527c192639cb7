-- What a turn of an ending leads to.
use Rattle.std.proofs.Common.{◌≡◌, ℕ, ◌+◌, ◌<◌, ◌≤◌, List, [], ◌∷◌, length, sym, refl, ap, ◌∙◌, subst, inl, inr, arith}
use Rattle.std.proofs.lemmas.Bool.{cases_lt}
use Rattle.board.specs.Side.{on, less, checkers}
use Rattle.board.specs.Position.{Position, swapped}
use Rattle.board.specs.Single.{moved}
use Rattle.turns.specs.Runs.{Move, Run, played}
use Rattle.turns.specs.Turns.{Allowed}
use Rattle.turns.specs.Roll.{Roll, rolled}
use Rattle.listing.proofs.Some.{has_first}
use Rattle.endings.specs.Ending.{Home, Ending}
use Rattle.endings.specs.Pips.{pips, both_pips}
use Rattle.endings.proofs.Homes.{any_die, moved_home, moved-pips, moved_other, home_few}

-- what a run leads to
pub record Leads (p : Position) (t : List Move) : Type 0 where
  pub own : Home (played p t).own
  pub other : (played p t).other ≡ p.other
  pub fewer : pips (played p t).own + length t ≤ pips p.own

pub leads : (p : Position) (dice : List ℕ) (t : List Move) → Home p.own → Home p.other → Run p dice t → Leads p t
leads p dice [] a b run = record { own = a; other = refl; fewer = omega arith }
leads p dice (m ∷ ms) a b run =
    let o = moved_other p m.0 m.1 a b run.1 in
    let r = leads (moved p m.0 m.1) (less dice m.1) ms (moved_home p m.0 m.1 a b run.1) (subst Home (sym o) b) run.2 in
    record { own = r.own; other = r.other ∙ o; fewer = omega (arith, r.fewer, moved-pips p m.0 m.1 a b run.1) }

pub moves : (p : Position) (x y : ℕ) (t : List Move) → Ending p → Roll x y → Allowed p x y t → 0 < length t
moves p x y t e d (run, inl f) = f.0
moves p x y t e d (run, inr f) =
    let s = any_die p x e.own e.other e.mine d.0.0 d.0.1 in
    omega (arith, f.0 ((s.0, x) ∷ []) (has_first x y d.0.1, s.1, tt))

-- a turn leads to an empty side, or to an ending of the other player, with fewer pips
pub turn_leads : (p : Position) (x y : ℕ) (t : List Move) → Ending p → Roll x y → Allowed p x y t → (on (played p t).own 0 ≡ checkers → ⊥) → Ending (swapped (played p t)) × (both_pips (swapped (played p t)) < both_pips p)
turn_leads p x y t e d a ne =
    let l = leads p (rolled x y) t e.own e.other a.0 in
    let m = moves p x y t e d a in
    let few : on (played p t).own 0 ≤ checkers = home_few (played p t).own l.own in (
      record {
        own = subst Home (sym l.other) e.other;
        other = l.own;
        mine = subst (λ side. on side 0 < checkers) (sym l.other) e.yours;
        yours = elim (cases_lt (on (played p t).own 0) checkers) [ inl k ↦ k | inr k ↦ absurd (ne (omega (arith, few, k))) ];
      },
      (let same : pips (played p t).other ≡ pips p.other = ap pips l.other in omega (arith, l.fewer, m, same)),
    )
