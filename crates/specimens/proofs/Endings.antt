-- Endings with one and two checkers on a side.
use Rattle.std.proofs.Common.{◌≡◌, ℕ, ◌-◌, ◌*◌, ◌^◌, ◌<◌, None, List, [], ◌∷◌, length, sum, sym, refl, ap, ◌∙◌, inl, inr, arith, lit≤}
use Rattle.board.specs.Side.{on, checkers}
use Rattle.board.specs.Position.{Position}
use Rattle.turns.specs.Roll.{Roll, rolled}
use Rattle.listing.specs.Order.{down, turns}
use Rattle.listing.specs.Listing.{In}
use Rattle.endings.specs.Ending.{Ending}
use Rattle.endings.specs.Rolls.{rolls}
use Rattle.endings.specs.Chance.{best, chance}
use Rattle.endings.specs.Length.{length_of}
use Rattle.endings.specs.Exact.{exact, exact_loss}
use Rattle.endings.proofs.Settles.{best-same, chance-exact}
use Rattle.endings.proofs.Full.{full_listing}
use Rattle.endings.proofs.Wide.{wide, wide_home}
use Rattle.endings.proofs.HomeMoves.{at}
use Rattle.endings.proofs.HomeTurns.{home_afters}
use Rattle.endings.proofs.HomeChances.{home_best, home_chance, home_lasts, best-quick, chance-quick, lasts-quick}
use Rattle.specimens.specs.Cases.{only, winning, lasting, losing}
use Rattle.specimens.specs.Specimens.{Stands, six_one, five_one, four_three}

-- the sides by seven counts: those borne off, and those on points 1 to 6
abbrev six : List ℕ
six = 14 ∷ 0 ∷ 0 ∷ 0 ∷ 0 ∷ 0 ∷ 1 ∷ []

abbrev five : List ℕ
five = 14 ∷ 0 ∷ 0 ∷ 0 ∷ 0 ∷ 1 ∷ 0 ∷ []

abbrev one : List ℕ
one = 14 ∷ 1 ∷ 0 ∷ 0 ∷ 0 ∷ 0 ∷ 0 ∷ []

abbrev four : List ℕ
four = 13 ∷ 0 ∷ 0 ∷ 1 ∷ 1 ∷ 0 ∷ 0 ∷ []

abbrev two : List ℕ
two = 13 ∷ 0 ∷ 2 ∷ 0 ∷ 0 ∷ 0 ∷ 0 ∷ []

is_ending : (a b : List ℕ) → length a ≡ 7 → length b ≡ 7 → sum a ≡ checkers → sum b ≡ checkers → on (wide a) 0 < checkers → on (wide b) 0 < checkers → Ending (at a b)
is_ending a b l m e f i j = record { own = wide_home a l e; other = wide_home b m f; mine = i; yours = j }

six-one : Ending (at six one)
six-one = is_ending six one refl refl refl refl (lit≤ tt) (lit≤ tt)

five-one : Ending (at five one)
five-one = is_ending five one refl refl refl refl (lit≤ tt) (lit≤ tt)

four-two : Ending (at four two)
four-two = is_ending four two refl refl refl refl (lit≤ tt) (lit≤ tt)

two-two : Ending (at two two)
two-two = is_ending two two refl refl refl refl (lit≤ tt) (lit≤ tt)

-- an exact chance from one that is reckoned
reckoned : (p : Position) (n x u v : ℕ) → Ending p → length_of p ≡ n → chance n p ≡ x → x * v ≡ u * 36 ^ n → exact (length_of p) p * v ≡ u * 36 ^ length_of p
reckoned p n x u v e l c z = rw l (ap (λ w. w * v) (sym (chance-exact n p e (omega (arith, l))) ∙ c) ∙ z)

six-lasts : length_of six_one ≡ 2
unfolding length_of home_lasts home_afters rolls down
six-lasts = lasts-quick 7 six one six-one refl refl

five-lasts : length_of five_one ≡ 2
unfolding length_of home_lasts home_afters rolls down
five-lasts = lasts-quick 6 five one five-one refl refl

four-lasts : length_of four_three ≡ 4
unfolding length_of home_lasts home_afters rolls down
four-lasts = lasts-quick 11 four two four-two refl refl

two-lasts : length_of (at two two) ≡ 3
unfolding length_of home_lasts home_afters rolls down
two-lasts = lasts-quick 8 two two two-two refl refl

pub six_wins : Stands (winning six_one 27 36)
unfolding home_chance home_afters rolls down
six_wins = (six-one, reckoned six_one 2 972 27 36 six-one six-lasts (chance-quick 2 six one six-one refl refl) refl)

pub six-length : Stands (lasting six_one 2)
six-length = (six-one, six-lasts)

pub five_wins : Stands (winning five_one 31 36)
unfolding home_chance home_afters rolls down
five_wins = (five-one, reckoned five_one 2 1116 31 36 five-one five-lasts (chance-quick 2 five one five-one refl refl) refl)

pub four-length : Stands (lasting four_three 4)
four-length = (four-two, four-lasts)

in_listing : In ((4, 2) ∷ (3, 1) ∷ []) (turns None 2 (at four two) (rolled 2 1))
unfolding turns down
in_listing = inl refl

in_rolls : In (2, 1) rolls
unfolding rolls
in_rolls = inr (inl refl)

two-one : Roll 2 1
two-one = ((lit≤ tt, lit≤ tt), (lit≤ tt, lit≤ tt))

quick-loss : (home_best (36 ^ 3) (home_chance 3 two) four (2, 1) - (36 ^ 3 - home_chance 3 two two)) * 1296 ≡ 80 * 36 ^ 3
unfolding home_chance home_afters rolls down
quick-loss = refl

loss : exact_loss 3 four_three (2, 1) ((4, 2) ∷ (3, 1) ∷ []) * 1296 ≡ 80 * 36 ^ 3
loss =
    let roll : best (36 ^ 3) (exact 3) (at four two) (2, 1) ≡ home_best (36 ^ 3) (home_chance 3 two) four (2, 1) =
    best-same (at four two) (2, 1) four-two two-one (36 ^ 3) (exact 3) (chance 3) (λ q e k. sym (chance-exact 3 q e (omega (arith, k, four-lasts))))
    ∙ best-quick four two four-two refl refl (2, 1) in_rolls (36 ^ 3) (chance 3) (home_chance 3 two) (λ c e l. chance-quick 3 two c e refl l)
    in
    let rest : exact 3 (at two two) ≡ home_chance 3 two two = sym (chance-exact 3 (at two two) two-two (omega (arith, two-lasts))) ∙ chance-quick 3 two two two-two refl refl in
    ap (λ v. (v - (36 ^ 3 - exact 3 (at two two))) * 1296) roll ∙ ap (λ v. (home_best (36 ^ 3) (home_chance 3 two) four (2, 1) - (36 ^ 3 - v)) * 1296) rest ∙ quick-loss

pub four_loses : Stands (losing four_three 2 1 ((4, 2) ∷ (3, 1) ∷ []) (only 2 2) 80 1296)
four_loses = (four-two, two-one, (full_listing (at four two) 2 1 four-two two-one).only _ in_listing, refl, rw four-lasts loss)
