-- Moves of a home side against a home side.
use Rattle.std.proofs.Common.{◌≡◌, ℕ, zero, suc, ◌-◌, ◌<◌, ◌≤◌, false, eqb, ◌⊎◌, List, inl, inr, arith}
use Rattle.std.proofs.lemmas.List.Sums.{sum_by-drop_more, get_or-le-sum_by}
use Rattle.std.proofs.lemmas.Bool.{cases_lt, eqb-true, ne_eqb, lt-ltb, le-ltb}
use Rattle.board.specs.Side.{on, checkers, NoneAbove}
use Rattle.board.specs.Position.{Position}
use Rattle.board.specs.Single.{Legal, moved}
use Rattle.turns.specs.Roll.{Die}
use Rattle.turns.specs.Turns.{Playable}
use Rattle.listing.proofs.Test.{clear_from}
use Rattle.endings.specs.Ending.{Home}
use Rattle.endings.specs.Pips.{pips}
use Rattle.endings.proofs.Shifts.{start_home, shifted_home, shifted-pips}

highest : (side : List ℕ) (k : ℕ) → ((q : ℕ) → k < q → q ≤ 25 → on side q ≡ 0) → ((h : ℕ) × (1 ≤ h) × (h ≤ k) × (0 < on side h) × ((q : ℕ) → h < q → q ≤ 25 → on side q ≡ 0)) ⊎ ((q : ℕ) → 0 < q → q ≤ 25 → on side q ≡ 0)
highest side zero above = inr above
highest side (suc k) above =
    elim (cases_lt 0 (on side (suc k))) [
      | inl l ↦ inl (suc k, omega arith, omega arith, l, above)
      | inr l ↦
          elim (highest side k (λ q m n. elim (cases_lt (suc k) q) [ inl o ↦ above q o n | inr o ↦ (let e : q ≡ suc k = omega arith in rw e (omega arith)) ]))
          [ inl r ↦ inl (r.0, r.1, omega (arith, r.2), r.3, r.4) | inr r ↦ inr r ]
    ]

off_all : (side : List ℕ) → Home side → ((q : ℕ) → 0 < q → q ≤ 25 → on side q ≡ 0) → on side 0 ≡ checkers
off_all side h none =
    let c = eqb-true _ 0 (clear_from side 0 h.long none) in
    omega (arith, sum_by-drop_more (λ x. x) side 0 0 (omega (arith, h.long)), c, h.complete)

-- nothing stands in a checker's way
pub nothing_blocked : (p : Position) (s d : ℕ) → Home p.own → Home p.other → (1 ≤ s) × (s ≤ 25) → 0 < on p.own s → Die d → (s < d → NoneAbove p.own s) → Legal p s d
nothing_blocked p s d a b start has die far =
    let low : s ≤ 6 = elim (cases_lt 6 s) [ inl l ↦ absurd (omega (arith, a.none s l start.1)) | inr l ↦ l ] in
    record {
      die = die;
      start = start;
      has = has;
      bar = λ l. absurd (omega (arith, a.none 25 (omega arith) (omega arith)));
      free = λ l. omega (arith, b.none (25 - (s - d)) (omega (arith, low)) (omega arith));
      home = λ _. a.none;
      far = far;
    }

-- any die can be played
pub any_die : (p : Position) (d : ℕ) → Home p.own → Home p.other → on p.own 0 < checkers → 1 ≤ d → d ≤ 6 → Playable p d
any_die p d a b m i j =
    elim (highest p.own 6 a.none) [
      | inr none ↦ absurd (omega (arith, off_all p.own a none))
      | inl r ↦ (r.0, nothing_blocked p r.0 d a b (r.1, omega (arith, r.2)) r.3 (i, j) (λ _. r.4))
    ]

module _ (p : Position) (s d : ℕ) (a : Home p.own) (b : Home p.other) (legal : Legal p s d) where
  pub less_far : s - d < s
  less_far = omega (arith, legal.die, legal.start)

  pub moved_home : Home (moved p s d).own
  moved_home = shifted_home p.own s (s - d) a legal.start.0 legal.start.1 less_far legal.has

  pub moved-pips : pips (moved p s d).own < pips p.own
  moved-pips = omega (arith, shifted-pips p.own s (s - d) a legal.start.0 legal.start.1 less_far legal.has, less_far)

  -- nothing is hit
  pub moved_other : (moved p s d).other ≡ p.other
  moved_other =
      elim (cases_lt d s) [
        | inl l ↦
            (let z : on p.other (25 - (s - d)) ≡ 0 = b.none (25 - (s - d)) (omega (arith, start_home p.own s (s - d) a legal.start.0 legal.start.1 less_far legal.has)) (omega arith) in
            let n : eqb (on p.other (25 - (s - d))) 1 ≡ false = ne_eqb _ 1 (λ e. omega (arith, z, e)) in
            rw (lt-ltb d s l, n))
        | inr l ↦ (let e = le-ltb d s l in rw e)
      ]

pub home_few : (side : List ℕ) → Home side → on side 0 ≤ checkers
home_few side h = omega (arith, h.complete, get_or-le-sum_by (λ x. x) side 0 0 (omega (arith, h.long)))
