-- The positions that turns lead to.
use Rattle.std.proofs.Common.{◌≡◌, ℕ, zero, suc, Bool, true, false, cond, ltb, List, [], ◌∷◌, map, Option, refl, ap, ◌∙◌, inl, inr, arith}
use Rattle.std.proofs.lemmas.List.{map-append}
use Rattle.std.proofs.lemmas.Bool.{cases_Bool, le-ltb}
use Rattle.board.specs.Side.{on, less}
use Rattle.board.specs.Position.{Position}
use Rattle.board.specs.Single.{moved}
use Rattle.turns.specs.Runs.{Move, played}
use Rattle.listing.specs.Order.{off, down, fits, turns}

-- the positions that `turns` lead to
unfoldable pub afters : Option ℕ → ℕ → Position → List ℕ → List Position
afters due zero b dice = b ∷ []
afters due (suc n) b dice =
    let more = down (λ d. down (λ s. let r = afters due n (moved b s d) (less dice d) in cond (fits due b dice s d) r []) 25) 6 in
    cond (off b) (b ∷ []) more

map-down : {X Y : Type 0} (g : X → Y) (f : ℕ → List X) (h : ℕ → List Y) (n : ℕ) → ((k : ℕ) → map g (f k) ≡ h k) → map g (down f n) ≡ down h n
unfolding down
map-down g f h zero e = refl
map-down g f h (suc n) e = map-append g (f (suc n)) (down f n) ∙ rw (e (suc n), map-down g f h n e)

map-cond : {X Y : Type 0} (g : X → Y) (c : Bool) (xs : List X) (ys : List Y) → map g xs ≡ ys → map g (cond c xs []) ≡ cond c ys []
map-cond g true xs ys e = e
map-cond g false xs ys e = refl

map-map : (b : Position) (m : Move) (ts : List (List Move)) → map (played b) (map (λ t. m ∷ t) ts) ≡ map (played (moved b m.0 m.1)) ts
map-map b m [] = refl
map-map b m (t ∷ ts) = ap (λ r. played (moved b m.0 m.1) t ∷ r) (map-map b m ts)

pub afters-turns : (due : Option ℕ) (n : ℕ) (b : Position) (dice : List ℕ) → map (played b) (turns due n b dice) ≡ afters due n b dice
unfolding turns afters
afters-turns due zero b dice = refl
afters-turns due (suc n) b dice =
    elim (cases_Bool (off b)) [
      | inl e ↦ rw e
      | inr e ↦
          rw e
          (map-down (played b) _ _ 6
          (λ d. map-down (played b) _ _ 25
          (λ s. map-cond (played b) (fits due b dice s d) _ _ (map-map b (s, d) _ ∙ afters-turns due n (moved b s d) (less dice d)))))
    ]

down_none : {X : Type 0} (f : ℕ → List X) (n : ℕ) → ((k : ℕ) → f k ≡ []) → down f n ≡ []
unfolding down
down_none f zero e = refl
down_none f (suc n) e = rw (e (suc n), down_none f n e)

-- nothing begins with a die that is not left
pub die_off : (due : Option ℕ) (n : ℕ) (b : Position) (dice : List ℕ) (d : ℕ) → on dice d ≡ 0 → down (λ s. cond (fits due b dice s d) (afters due n (moved b s d) (less dice d)) []) 25 ≡ []
die_off due n b dice d z =
    down_none (λ s. cond (fits due b dice s d) (afters due n (moved b s d) (less dice d)) []) 25
    (λ s. let e : ltb 0 (on dice d) ≡ false = le-ltb 0 (on dice d) (omega arith) in rw e)
