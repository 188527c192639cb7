-- The best of the turns that are shown one after another.
use Rattle.std.proofs.Common.{◌≡◌, List, [], ◌∷◌, map, fold, true, Some, None, Ok, Err, Option, Result, MatchResult, unwrap_or, refl, ap, subst, inl, inr, arith}
use Rattle.std.specs.Result.{is_ok}
use Rattle.board.specs.Position.{Position}
use Rattle.turns.specs.Runs.{Move, played}
use Rattle.listing.specs.Listing.{In}
use Rattle.listing.specs.Showing.{Shown}
use Rattle.chance.specs.declared.kind.Chance.{Ghosts}
use Rattle.endings.specs.Ending.{HomeFor}
use Rattle.places.specs.Asked.{Size}
use Rattle.tables.specs.declared.judging.Best.{Best}
use Rattle.values.specs.Best.{best_from_first}
use Rattle.tables.specs.Bettering.{shown_value, Bettered}

pub map_twice : {X Y Z : Type 0} (f : Y → Z) (g : X → Y) (xs : List X) → map (λ x. f (g x)) xs ≡ map f (map g xs)
map_twice f g [] = refl
map_twice f g (x ∷ xs) = ap (λ zs. f (g x) ∷ zs) (map_twice f g xs)

module _ {V S R : Type 0} (k : Ghosts V S R) (b : Position) (v : Best V S R) (size : Size v.n) where
  abbrev Homes : List (List Move) → Type 0
  Homes ts = (t : List Move) → In t ts → HomeFor v.n (played b t).own

  later : (best : V) (w : Option V) (ts : List (List Move)) → Homes ts → Shown (Bettered k v) [] b (Some best) ts w → w ≡ Some (fold k.better best (map (λ t. shown_value k v (played b t)) ts))
  later best w [] each r = r
  later best w (t ∷ ts) each r =
      later (k.better best (shown_value k v (played b t))) w ts (λ u i. each u (inr i)) (subst (λ s. Shown (Bettered k v) [] b s ts w) (r.1 size (each t (inl refl))) r.2)

  pub best-shown : (w : Option V) (ts : List (List Move)) → Homes ts → Shown (Bettered k v) [] b None ts w → unwrap_or w k.lost ≡ best_from_first k (map (λ t. shown_value k v (played b t)) ts)
  best-shown w [] each r = ap (λ s. unwrap_or s k.lost) r
  best-shown w (t ∷ ts) each r =
      ap (λ s. unwrap_or s k.lost) (later (shown_value k v (played b t)) w ts (λ u i. each u (inr i)) (subst (λ s. Shown (Bettered k v) [] b s ts w) (r.1 size (each t (inl refl))) r.2))

-- what is answered with another error was answered
pub answered : {T E : Type 0} (F : Type 0) (r : Result T E) (w : T) (P : E → Type 0) → MatchResult r (λ v. ◌≡◌ {A = Result T F} (Ok w) (Ok v)) P → true ≡ is_ok r → r ≡ Ok w
answered F (Ok v) w P h e = grind (arith, h)
answered F (Err f) w P h e = absurd (grind (arith, e))
