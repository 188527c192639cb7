-- Places and positions tell the same values.
use Rattle.std.proofs.Common.{◌≡◌, ℕ, ◌<◌, true, false, eqb, List, map, length, refl, ap, ◌∙◌, inl, inr, arith}
use Rattle.std.proofs.lemmas.List.Sums.{get_or-le-sum_by}
use Rattle.std.proofs.lemmas.Bool.{cases_Bool, eqb-true, eqb-false, ne_eqb}
use Rattle.board.specs.Side.{on, checkers}
use Rattle.board.specs.Position.{Position}
use Rattle.turns.specs.Roll.{Roll, rolled}
use Rattle.turns.specs.Runs.{Move, played}
use Rattle.turns.specs.Turns.{Allowed}
use Rattle.listing.specs.Order.{off, listed}
use Rattle.listing.proofs.Some.{some_allowed}
use Rattle.chance.specs.declared.kind.Chance.{Ghosts}
use Rattle.endings.specs.Ending.{Home, HomeFor, Ending, EndingFor}
use Rattle.endings.specs.Length.{more}
use Rattle.endings.specs.Rolls.{TwoDice}
use Rattle.endings.specs.Place.{place, places_of}
use Rattle.endings.proofs.Lists.{map_same}
use Rattle.endings.proofs.HomePlaces.{first}
use Rattle.endings.proofs.Falls.{turn_for, turn_falls}
use Rattle.endings.proofs.Leads.{leads}
use Rattle.endings.proofs.Lengths.{sound}
use Rattle.endings.proofs.Alike.{own_same, listed_same}
use Rattle.values.specs.Best.{after_value}
use Rattle.tables.specs.Parts.{value_after, length_after}
use Rattle.tables.specs.Led.{facing, places_led_to}
use Rattle.tables.specs.Filled.{tabled, tabled_length}

-- a side that is not empty has fewer checkers off than it has
pub unfinished : (side : List ℕ) → Home side → (on side 0 ≡ checkers → ⊥) → on side 0 < checkers
unfinished side h some = let l : 0 < length side = omega (arith, h.long) in omega (arith, h.complete, get_or-le-sum_by (λ x. x) side 0 0 l)

-- and has not the first place
some_place : (n : ℕ) (side : List ℕ) → HomeFor n side → (on side 0 ≡ checkers → ⊥) → 0 < place n side
some_place n side h some =
    let left = unfinished side h.home some in
    let e : EndingFor n (facing side) = record { ending = record { own = h.home; other = h.home; mine = left; yours = left }; own = h.few; other = h.few } in
    let t = some_allowed (facing side) 1 1 (sound (facing side) e.ending) (omega arith) (omega arith) in
    omega (arith, turn_falls n (facing side) 1 1 t.0 e ((omega arith, omega arith), (omega arith, omega arith)) t.1)

-- the turns of a side lead to the same places against any side
pub led_alike : (n : ℕ) (p : Position) (r : TwoDice) → Ending p → places_led_to n (facing p.own) r ≡ places_led_to n p r
led_alike n p r e =
    let l = listed_same (facing p.own) p r.0 r.1 e.own e.own e.other refl in
    ap (map (λ t. place n (played (facing p.own) t).own)) l ∙ map_same _ _ (listed p r.0 r.1) (λ t i. ap (place n) (own_same (facing p.own) p t refl))

module _ (n : ℕ) (p : Position) (x y : ℕ) (t : List Move) (e : EndingFor n p) (roll : Roll x y) (a : Allowed p x y t) where
  same_other : (played p t).other ≡ p.other
  same_other = (leads p (rolled x y) t e.ending.own e.ending.other a.0).other

  at_off : off (played p t) ≡ true → place n (played p t).own ≡ 0
  at_off o = first n (played p t).own (turn_for n p x y t e roll a) (omega (arith, eqb-true _ checkers o))

  at_on : off (played p t) ≡ false → eqb (place n (played p t).own) 0 ≡ false
  at_on o = ne_eqb _ 0 (λ z. omega (arith, z, some_place n (played p t).own (turn_for n p x y t e roll a) (eqb-false _ checkers o)))

  pub after_linked : {V S R : Type 0} (k : Ghosts V S R) (rows : List R) → value_after k (places_of n) rows (place n p.other) (place n (played p t).own) ≡ after_value k (tabled k n rows) p t
  after_linked k rows =
      elim (cases_Bool (off (played p t)))
      [ inl o ↦ (let z = at_off o in rw (z, o)) | inr o ↦ (let z = at_on o in rw (z, o, same_other)) ]

  pub length_linked : (lengths : List ℕ) → length_after (places_of n) lengths (place n p.other) (place n (played p t).own) ≡ more (tabled_length n lengths) p t
  length_linked lengths =
      elim (cases_Bool (off (played p t)))
      [ inl o ↦ (let z = at_off o in rw (z, o)) | inr o ↦ (let z = at_on o in rw (z, o, same_other)) ]
