-- Lengths and exact chances of an ending from those of the endings to which it leads.
use Rattle.std.proofs.Common.{◌≡◌, ℕ, suc, ◌^◌, ◌≤◌, false, List, map, sym, ap, ◌∙◌, inl, inr, arith}
use Rattle.std.proofs.lemmas.Bool.{cases_Bool, cond-false, ne_eqb}
use Rattle.board.specs.Side.{on, checkers}
use Rattle.board.specs.Position.{Position, swapped}
use Rattle.turns.specs.Roll.{Roll}
use Rattle.turns.specs.Runs.{Move, played}
use Rattle.turns.specs.Turns.{Allowed}
use Rattle.listing.specs.Order.{off, greatest, listed}
use Rattle.listing.proofs.Listed.{listed_is}
use Rattle.endings.specs.Ending.{Ending}
use Rattle.endings.specs.Chance.{after, best, chance}
use Rattle.endings.specs.Exact.{exact}
use Rattle.endings.specs.Length.{more, length_of}
use Rattle.endings.specs.Rolls.{rolls}
use Rattle.endings.proofs.Lists.{map_same}
use Rattle.endings.proofs.Rolls.{rolls-fine}
use Rattle.endings.proofs.Lengths.{sound, longest_of, length_is}
use Rattle.endings.proofs.Settles.{chance-exact}
use Rattle.values.specs.Entry.{length_entry}
use Rattle.values.specs.Laws.{Reached}
use Rattle.values.proofs.Reaching.{reached}

-- neither side of an ending is empty
pub own_left : (p : Position) → Ending p → off p ≡ false
own_left p e = ne_eqb (on p.own 0) checkers (λ z. omega (arith, z, e.mine))

pub other_left : (p : Position) → Ending p → off (swapped p) ≡ false
other_left p e = ne_eqb (on p.other 0) checkers (λ z. omega (arith, z, e.yours))

pub length-entry : (p : Position) → Ending p → length_entry p ≡ length_of p
length-entry p e = cond-false (off p) _ _ (own_left p e) ∙ cond-false (off (swapped p)) _ _ (other_left p e)

pub length_from : (others : Position → ℕ) (p : Position) → Ending p → ((q : Position) → Reached p q → others q ≡ length_of q) → length_of p ≡ suc (greatest (map (λ r. greatest (map (more others p) (listed p r.0 r.1))) rolls))
length_from others p e h =
    length_is p e
    ∙ ap (λ l. suc (greatest l))
    (map_same (longest_of length_of p) (longest_of others p) rolls
    (λ r i. ap greatest
    (map_same (more length_of p) (more others p) (listed p r.0 r.1)
    (λ t j.
    let a = (listed_is p r.0 r.1 (sound p e)).only t j in
    elim (cases_Bool (off (played p t))) [
      | inl o ↦ rw o
      | inr o ↦ rw (o, sym (h (swapped (played p t)) (reached p r.0 r.1 t e (rolls-fine r i) a o)))
    ]))))

-- what is had after a turn and of a roll, by the exact chances
pub after-exact : (n : ℕ) (p : Position) (x y : ℕ) (t : List Move) → Ending p → Roll x y → Allowed p x y t → length_of p ≤ suc n → after (36 ^ n) (chance n) p t ≡ after (36 ^ n) (exact n) p t
after-exact n p x y t e d a l = elim (cases_Bool (off (played p t))) [
  | inl o ↦ rw o
  | inr o ↦
      (let q = reached p x y t e d a o in
      rw (o, chance-exact n (swapped (played p t)) q.ending (omega (arith, q.shorter))))
]

pub best-exact : (n : ℕ) (p : Position) (x y : ℕ) → Ending p → Roll x y → length_of p ≤ suc n → best (36 ^ n) (chance n) p (x, y) ≡ best (36 ^ n) (exact n) p (x, y)
best-exact n p x y e d l =
    ap greatest (map_same (after (36 ^ n) (chance n) p) (after (36 ^ n) (exact n) p) (listed p x y) (λ t j. after-exact n p x y t e d ((listed_is p x y (sound p e)).only t j) l))
