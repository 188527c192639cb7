-- Every move leads to an earlier place.
use Rattle.std.proofs.Common.{◌≡◌, ℕ, zero, suc, ◌+◌, ◌-◌, ◌<◌, ◌≤◌, List, [], ◌∷◌, length, arith, length-set}
use Rattle.std.proofs.lemmas.List.{get_or-set_same, get_or-set_other}
use Rattle.board.specs.Side.{on, less, shifted, checkers}
use Rattle.board.specs.Position.{Position, swapped}
use Rattle.board.specs.Single.{Legal, moved}
use Rattle.turns.specs.Roll.{Roll, rolled}
use Rattle.turns.specs.Runs.{Move, Run, played}
use Rattle.turns.specs.Turns.{Allowed}
use Rattle.endings.specs.Ending.{HomeFor, EndingFor}
use Rattle.endings.specs.Place.{place}
use Rattle.endings.proofs.Shifts.{start_home, shifted_home}
use Rattle.endings.proofs.Leads.{moves, leads, turn_leads}
use Rattle.endings.proofs.Places.{place-moved}
use Rattle.endings.proofs.HomePlaces.{few_counts}

-- no checker comes back
off_stays : (side : List ℕ) (s t : ℕ) → 1 ≤ s → t < length side → on side 0 ≤ on (shifted side s t) 0
off_stays side s t i l =
    let ne : 0 ≡ s → ⊥ = λ z. omega arith in
    let kept : on (less side s) 0 ≡ on side 0 = get_or-set_other side s 0 _ 0 ne in
    let w : t < length (less side s) = rw (length-set side s (on side s - 1)) l in
    at t w kept
  where
    at : (u : ℕ) → u < length (less side s) → on (less side s) 0 ≡ on side 0 → on side 0 ≤ on (shifted side s u) 0
    at zero w kept = omega (arith, kept, get_or-set_same (less side s) 0 (on (less side s) 0 + 1) 0 w)
    at (suc u) w kept =
        let ne : 0 ≡ suc u → ⊥ = λ z. omega arith in
        let same : on (shifted side s (suc u)) 0 ≡ on (less side s) 0 = get_or-set_other (less side s) (suc u) 0 _ 0 ne in
        omega (arith, kept, same)

module _ (n : ℕ) (p : Position) (s d : ℕ) (h : HomeFor n p.own) (legal : Legal p s d) where
  down_from : s - d < s
  down_from = omega (arith, legal.die, legal.start)

  pub moved_for : HomeFor n (moved p s d).own
  moved_for =
      record {
        home = shifted_home p.own s (s - d) h.home legal.start.0 legal.start.1 down_from legal.has;
        few = omega (arith, h.few, off_stays p.own s (s - d) legal.start.0 (omega (arith, h.home.long, legal.start)));
      }

  pub move_falls : place n (moved p s d).own < place n p.own
  move_falls =
      place-moved n p.own s (s - d) legal.start.0
      (start_home p.own s (s - d) h.home legal.start.0 legal.start.1 down_from legal.has)
      down_from (omega (arith, h.home.long, legal.start)) legal.has
      (few_counts n (moved p s d).own moved_for)

pub run_for : (n : ℕ) (p : Position) (dice : List ℕ) (t : List Move) → HomeFor n p.own → Run p dice t → HomeFor n (played p t).own
run_for n p dice [] h run = h
run_for n p dice (m ∷ ms) h run = run_for n (moved p m.0 m.1) (less dice m.1) ms (moved_for n p m.0 m.1 h run.1) run.2

run_falls : (n : ℕ) (p : Position) (dice : List ℕ) (t : List Move) → HomeFor n p.own → Run p dice t → place n (played p t).own + length t ≤ place n p.own
run_falls n p dice [] h run = omega arith
run_falls n p dice (m ∷ ms) h run =
    omega (arith, run_falls n (moved p m.0 m.1) (less dice m.1) ms (moved_for n p m.0 m.1 h run.1) run.2, move_falls n p m.0 m.1 h run.1)

module _ (n : ℕ) (p : Position) (x y : ℕ) (t : List Move) (e : EndingFor n p) (r : Roll x y) (a : Allowed p x y t) where
  own_for : HomeFor n p.own
  own_for = record { home = e.ending.own; few = e.own }

  pub turn_for : HomeFor n (played p t).own
  turn_for = run_for n p (rolled x y) t own_for a.0

  pub turn_falls : place n (played p t).own < place n p.own
  turn_falls = omega (arith, run_falls n p (rolled x y) t own_for a.0, moves p x y t e.ending r a)

  pub leads_for : (on (played p t).own 0 ≡ checkers → ⊥) → EndingFor n (swapped (played p t))
  leads_for ne =
      let o = (leads p (rolled x y) t e.ending.own e.ending.other a.0).other in
      record { ending = (turn_leads p x y t e.ending r a ne).0; own = rw o e.other; other = turn_for.few }
