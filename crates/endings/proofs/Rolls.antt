-- The rolls are two dice each, and 36 in all.
use Rattle.std.proofs.Common.{◌≡◌, ℕ, Bool, true, ◌&&◌, ◌||◌, eqb, leb, ◌⊎◌, List, [], ◌∷◌, sum_by, refl, inl, inr}
use Rattle.std.proofs.lemmas.Bool.{and_parts, or_cases, eqb-true, leb-true}
use Rattle.turns.specs.Roll.{Roll}
use Rattle.listing.specs.Order.{down}
use Rattle.listing.specs.Listing.{In}
use Rattle.listing.proofs.In.{down_in}
use Rattle.endings.specs.Rolls.{TwoDice, rolls, weight}
use Rattle.endings.proofs.Lists.{every, in_every, any, any_in}

abbrev fine : TwoDice → Bool
fine r = leb 1 r.0 && leb r.0 6 && leb 1 r.1 && leb r.1 6

pub rolls-fine : (r : TwoDice) → In r rolls → Roll r.0 r.1
unfolding rolls
rolls-fine r i =
    let p = and_parts _ (leb r.1 6) (in_every fine r rolls refl i) in
    let q = and_parts _ (leb 1 r.1) p.0 in
    let o = and_parts (leb 1 r.0) (leb r.0 6) q.0 in
    ((leb-true 1 r.0 o.0, leb-true r.0 6 o.1), (leb-true 1 r.1 q.1, leb-true r.1 6 p.1))

pub weights : sum_by weight rolls ≡ 36
unfolding rolls
weights = refl

pub first-roll : In (1, 1) rolls
unfolding rolls
first-roll = inl refl

-- any two dice are a roll of the list, in one order
abbrev is_roll : ℕ → ℕ → Bool
is_roll x y = any (λ r. eqb x r.0 && eqb y r.1) rolls

roll_in : (x y : ℕ) → is_roll x y ≡ true → In (x, y) rolls
roll_in x y e =
    let r = any_in (λ r. eqb x r.0 && eqb y r.1) rolls e in
    let p = and_parts (eqb x r.0.0) (eqb y r.0.1) r.2 in
    let same : (x, y) ≡ r.0 = λ i. (eqb-true x r.0.0 p.0 i, eqb-true y r.0.1 p.1 i) in
    rw same r.1

abbrev dice : List ℕ
dice = down (λ d. d ∷ []) 6

all_rolls : every (λ x. every (λ y. is_roll x y || is_roll y x) dice) dice ≡ true
unfolding rolls down
all_rolls = refl

pub every_roll : (x y : ℕ) → Roll x y → In (x, y) rolls ⊎ In (y, x) rolls
every_roll x y r =
    let a = in_every (λ x. every (λ y. is_roll x y || is_roll y x) dice) x dice all_rolls (down_in x (λ d. d ∷ []) 6 x r.0.0 r.0.1 (inl refl)) in
    let b = in_every (λ y. is_roll x y || is_roll y x) y dice a (down_in y (λ d. d ∷ []) 6 y r.1.0 r.1.1 (inl refl)) in
    elim (or_cases (is_roll x y) (is_roll y x) b) [ inl e ↦ inl (roll_in x y e) | inr e ↦ inr (roll_in y x e) ]
