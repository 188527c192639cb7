-- Places of home sides.
use Rattle.std.proofs.Common.{◌≡◌, ℕ, ◌<◌, ◌≤◌, List, [], get_or, sum, arith}
use Rattle.board.specs.Side.{checkers}
use Rattle.endings.specs.Ending.{left, HomeFor}
use Rattle.endings.specs.Place.{before, sides, place, places_of, counts}
use Rattle.endings.proofs.Counting.{count_none}
use Rattle.endings.proofs.Before.{none_before}
use Rattle.endings.proofs.Sorted.{sides-only}
use Rattle.endings.proofs.Places.{place-within, place_nth, place-counts, in_get_d}
use Rattle.endings.proofs.Wide.{counts-left, home_same, side_of, side_of_fits}

pub few_counts : (n : ℕ) (side : List ℕ) → HomeFor n side → sum (counts side) ≤ n
few_counts n side h = omega (arith, counts-left side h.home, h.few)

pub below : (n : ℕ) (side : List ℕ) → HomeFor n side → place n side < places_of n
below n side h = place-within n side (few_counts n side h)

pub apart : (n : ℕ) (a b : List ℕ) → HomeFor n a → HomeFor n b → place n a ≡ place n b → a ≡ b
apart n a b h k e = home_same a b h.home k.home (place-counts n a b (few_counts n a h) (few_counts n b k) e)

pub each : (n i : ℕ) → n ≤ checkers → i < places_of n → (side : List ℕ) × HomeFor n side × (place n side ≡ i)
unfolding places_of
each n i l m =
    let cs = get_or (sides 6 n) i [] in
    let k = sides-only 6 n cs (in_get_d (sides 6 n) i [] m) in
    let s = side_of_fits cs k.0 (omega (arith, k.1)) in
    (side_of cs, record { home = s.0; few = omega (arith, k.1) }, place_nth n i (side_of cs) m s.1)

-- the empty side comes first
pub first : (n : ℕ) (side : List ℕ) → HomeFor n side → left side ≡ 0 → place n side ≡ 0
unfolding place
first n side h e = count_none (λ cs. before cs (counts side)) (sides 6 n) (λ cs. none_before cs (counts side) (omega (arith, counts-left side h.home)))
