-- What lengths are.
use Rattle.std.proofs.Common.{◌≡◌, ℕ, zero, suc, ◌<◌, ◌≤◌, false, List, map, ap, ◌∙◌, inl, inr, arith}
use Rattle.std.proofs.lemmas.Bool.{cases_Bool, eqb-false}
use Rattle.board.specs.Side.{checkers}
use Rattle.board.specs.Position.{Position, swapped}
use Rattle.turns.specs.Roll.{Roll}
use Rattle.turns.specs.Runs.{Move, played}
use Rattle.turns.specs.Turns.{Allowed}
use Rattle.listing.specs.Listing.{In, Listing}
use Rattle.listing.specs.Order.{off, greatest, listed}
use Rattle.listing.specs.Laws.{Sound}
use Rattle.listing.proofs.Listed.{listed_is}
use Rattle.listing.proofs.Some.{some_allowed}
use Rattle.endings.specs.Ending.{Ending}
use Rattle.endings.specs.Pips.{both_pips}
use Rattle.endings.specs.Rolls.{TwoDice, rolls}
use Rattle.endings.specs.Length.{more, lasts, length_of, MostAfter}
use Rattle.endings.proofs.Lists.{map_same, mapped_bound, greatest_le, greatest-reached}
use Rattle.endings.proofs.Rolls.{rolls-fine, first-roll, every_roll}
use Rattle.endings.proofs.EitherWay.{allowed_turned}
use Rattle.endings.proofs.Homes.{any_die, moved-pips}
use Rattle.endings.proofs.Leads.{turn_leads}

pub sound : (p : Position) → Ending p → Sound p
sound p e = record { long = e.own.long; complete = e.own.complete }

abbrev pub longest_of : (Position → ℕ) → Position → TwoDice → ℕ
longest_of f p r = greatest (map (more f p) (listed p r.0 r.1))

-- two counts that are the same at what an ending leads to
same_more : (f g : Position → ℕ) (p : Position) → Ending p → ((q : Position) → Ending q → both_pips q < both_pips p → f q ≡ g q) → map (longest_of f p) rolls ≡ map (longest_of g p) rolls
same_more f g p e h =
    map_same (longest_of f p) (longest_of g p) rolls
    (λ r i.
    let d = rolls-fine r i in
    ap greatest (map_same (more f p) (more g p) (listed p r.0 r.1)
    (λ t j.
    let a = (listed_is p r.0 r.1 (sound p e)).only t j in
    elim (cases_Bool (off (played p t))) [
      | inl o ↦ rw o
      | inr o ↦
          (let q = turn_leads p r.0 r.1 t e d a (eqb-false _ checkers o) in
          rw (o, h (swapped (played p t)) q.0 q.1))
    ])))

pips_some : (p : Position) → Ending p → 0 < both_pips p
pips_some p e =
    let m = any_die p 1 e.own e.other e.mine (omega arith) (omega arith) in
    omega (arith, moved-pips p m.0 1 e.own e.other m.1)

-- the count stays the same from the pips on
pub lasts-same : (m k : ℕ) (p : Position) → Ending p → both_pips p ≤ m → both_pips p ≤ k → lasts m p ≡ lasts k p
unfolding lasts
lasts-same zero k p e i j = absurd (omega (arith, pips_some p e))
lasts-same (suc m) zero p e i j = absurd (omega (arith, pips_some p e))
lasts-same (suc m) (suc k) p e i j =
    ap (λ l. suc (greatest l)) (same_more (lasts m) (lasts k) p e (λ q f l. lasts-same m k q f (omega arith) (omega arith)))

-- the length is 1 plus the greatest length after an allowed turn of any roll, 0 where the side is empty
pub length_is : (p : Position) → Ending p → length_of p ≡ suc (greatest (map (longest_of length_of p) rolls))
unfolding lasts length_of
length_is p e =
    lasts-same (both_pips p) (suc (both_pips p)) p e (omega arith) (omega arith)
    ∙ ap (λ l. suc (greatest l)) (same_more (lasts (both_pips p)) length_of p e (λ q f l. lasts-same (both_pips p) (both_pips q) q f (omega arith) (omega arith)))

-- the length is 1 plus the greatest number of rolls to come after an allowed turn of any roll
pub most_after : (p : Position) → Ending p → (m : ℕ) × MostAfter length_of p m × (length_of p ≡ suc m)
most_after p e = (greatest (map (longest_of length_of p) rolls), record { bound = bound; reached = reached }, length_is p e)
  where
    list : (r : TwoDice) → Listing p r.0 r.1 (listed p r.0 r.1)
    list r = listed_is p r.0 r.1 (sound p e)

    within : (r : TwoDice) (t : List Move) → In r rolls → Allowed p r.0 r.1 t → more length_of p t ≤ greatest (map (longest_of length_of p) rolls)
    within r t i a = omega (arith, mapped_bound (more length_of p) t (listed p r.0 r.1) ((list r).every t a), mapped_bound (longest_of length_of p) r rolls i)

    bound : (x y : ℕ) (t : List Move) → Roll x y → Allowed p x y t → more length_of p t ≤ greatest (map (longest_of length_of p) rolls)
    bound x y t d a = elim (every_roll x y d) [ inl i ↦ within (x, y) t i a | inr i ↦ within (y, x) t i (allowed_turned p x y t a) ]

    reached : (x y : ℕ) × (t : List Move) × Roll x y × Allowed p x y t × (more length_of p t ≡ greatest (map (longest_of length_of p) rolls))
    reached =
        let r = greatest-reached (longest_of length_of p) (1, 1) rolls first-roll in
        let d = rolls-fine r.0 r.1 in
        let u = some_allowed p r.0.0 r.0.1 (sound p e) d.0.1 d.1.1 in
        let t = greatest-reached (more length_of p) u.0 (listed p r.0.0 r.0.1) ((list r.0).every u.0 u.1) in
        (r.0.0, r.0.1, t.0, d, (list r.0).only t.0 t.1, t.2 ∙ r.2)

-- an allowed turn leads to a smaller length
pub length-less : (p : Position) (x y : ℕ) (t : List Move) → Ending p → Roll x y → Allowed p x y t → off (played p t) ≡ false → length_of (swapped (played p t)) < length_of p
length-less p x y t e d a o =
    let m = most_after p e in
    let z : more length_of p t ≡ length_of (swapped (played p t)) = rw o in
    omega (arith, m.1.bound x y t d a, m.2, z)

lasts_le : (n : ℕ) (p : Position) → lasts n p ≤ n
unfolding lasts
lasts_le zero p = omega arith
lasts_le (suc n) p =
    omega (
      arith,
      greatest_le (longest_of (lasts n) p) n rolls
          (λ r _. greatest_le (more (lasts n) p) n (listed p r.0 r.1)
          (λ t _. elim (cases_Bool (off (played p t))) [ inl o ↦ rw o (omega arith) | inr o ↦ rw o (lasts_le n (swapped (played p t))) ])),
    )

-- each roll takes a pip at least
pub length-pips : (p : Position) → length_of p ≤ both_pips p
unfolding length_of
length-pips p = lasts_le (both_pips p) p

pub length_some : (p : Position) → Ending p → 1 ≤ length_of p
length_some p e = omega (arith, length_is p e)
