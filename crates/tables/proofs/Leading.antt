-- The places that are collected from a list of turns.
use Rattle.std.proofs.Common.{◌≡◌, ℕ, zero, suc, ◌<◌, List, [], ◌∷◌, ◌++◌, map, length, get_or, Ok, Err, Result, IfOk, Vec, vec_items, refl, ap, ◌∙◌, append_assoc, append-nil, inl, inr, arith}
use Rattle.std.specs.declared.alloc.AllocError.{AllocError}
use Rattle.std.specs.declared.alloc.Global.{Global}
use Rattle.board.specs.Position.{Position}
use Rattle.turns.specs.Roll.{Roll, rolled}
use Rattle.turns.specs.Runs.{Move, played}
use Rattle.listing.specs.Listing.{In}
use Rattle.listing.specs.Order.{listed}
use Rattle.listing.specs.Showing.{Shown}
use Rattle.listing.proofs.Listed.{listed_is}
use Rattle.endings.specs.Ending.{HomeFor}
use Rattle.endings.specs.Place.{place}
use Rattle.endings.specs.Rolls.{rolls}
use Rattle.endings.proofs.Falls.{run_for}
use Rattle.endings.proofs.HomePlaces.{below}
use Rattle.endings.proofs.Rolls.{rolls-fine}
use Rattle.places.specs.Asked.{Size}
use Rattle.places.proofs.Table.{at_table, all_ways}
use Rattle.tables.specs.Led.{Kept, places_led_to}

-- a place fits 16 bits
pub place_fits : (n : ℕ) (side : List ℕ) → Size n → HomeFor n side → place n side < 924
place_fits n side s h = omega (arith, below n side h, at_table 6 n (omega arith) s.1, all_ways n)

pub rolls_long : length rolls ≡ 21
unfolding rolls
rolls_long = refl

in_at : {X : Type 0} (xs : List X) (i : ℕ) (d : X) → i < length xs → In (get_or xs i d) xs
in_at [] i d l = absurd (omega arith)
in_at (x ∷ xs) zero d l = inl refl
in_at (x ∷ xs) (suc i) d l = inr (in_at xs i d (omega arith))

-- each of the rolls is one of two dice
pub roll_fine : (i : ℕ) (d : ℕ × ℕ) → i < 21 → Roll (get_or rolls i d).0 (get_or rolls i d).1
roll_fine i d l = rolls-fine (get_or rolls i d) (in_at rolls i d (omega (arith, rolls_long)))

module _ (n : ℕ) (b : Position) (size : Size n) where
  abbrev Homes : List (List Move) → Type 0
  Homes ts = (t : List Move) → In t ts → HomeFor n (played b t).own

  -- once memory fell short, it stays so
  none_after : (e : AllocError) (last : Vec ℕ Global) (ts : List (List Move)) → Shown (Kept n) [] b (Err e) ts (Ok last) → ⊥
  none_after e last [] r = grind arith
  none_after e last (t ∷ ts) (Ok u, no', r) = no'
  none_after e last (t ∷ ts) (Err f, _, r) = none_after f last ts r

  -- where it sufficed to the end, the places stand in their order
  pub all_kept : (first last : Vec ℕ Global) (ts : List (List Move)) → Homes ts → Shown (Kept n) [] b (Ok first) ts (Ok last) → vec_items last ≡ vec_items first ++ map (λ t. place n (played b t).own) ts
  all_kept first last [] homes r = grind (arith, append-nil (vec_items first))
  all_kept first last (t ∷ ts) homes (Ok now, kept, r) =
      let rest = map (λ t. place n (played b t).own) ts in
      all_kept now last ts (λ u i. homes u (inr i)) r ∙ ap (λ xs. xs ++ rest) (kept size (homes t (inl refl))) ∙ append_assoc (vec_items first) (place n (played b t).own ∷ []) rest
  all_kept first last (t ∷ ts) homes (Err e, _, r) = absurd (none_after e last ts r)

  pub led : (x y : ℕ) (first : Vec ℕ Global) (r : Result (Vec ℕ Global) AllocError) → HomeFor n b.own → first.items ≡ [] → Shown (Kept n) [] b (Ok first) (listed b x y) r → IfOk r (λ v. v.items ≡ places_led_to n b (x, y))
  led x y first (Err e) h none shown = tt
  led x y first (Ok last) h none shown =
      let homes : Homes (listed b x y) = λ t i. run_for n b (rolled x y) t h ((listed_is b x y (record { long = h.home.long; complete = h.home.complete })).only t i).0 in
      all_kept first last (listed b x y) homes shown ∙ ap (λ xs. xs ++ places_led_to n b (x, y)) none
