-- The two dice of a roll may come in either order.
use Rattle.std.proofs.Common.{◌≡◌, ℕ, max, eqb, List, map, replicate, sym, ap, ◌∙◌, subst, inl, inr, arith}
use Rattle.std.proofs.lemmas.List.{set_comm}
use Rattle.std.proofs.lemmas.Bool.{cases_Bool, eqb-true, eqb-false, ne_eqb}
use Rattle.board.specs.Position.{Position}
use Rattle.turns.specs.Roll.{rolled}
use Rattle.turns.specs.Runs.{Move, Run}
use Rattle.turns.specs.Turns.{Allowed}
use Rattle.listing.specs.Order.{greatest, listed}
use Rattle.listing.specs.Laws.{Sound}
use Rattle.listing.proofs.Listed.{listed_is}
use Rattle.listing.proofs.Some.{the_listing}
use Rattle.endings.specs.Chance.{after, best}

rolled_turned : (x y : ℕ) → rolled x y ≡ rolled y x
rolled_turned x y =
    elim (cases_Bool (eqb x y)) [
      | inl e ↦ (let z = eqb-true x y e in rw z)
      | inr e ↦
          (let ne = eqb-false x y e in
          rw (e, ne_eqb y x (λ z. ne (sym z))) (set_comm {A = ℕ} (replicate 7 0) x y 1 1 ne))
    ]

turned_run : (p : Position) (x y : ℕ) (t : List Move) → Run p (rolled x y) t → Run p (rolled y x) t
turned_run p x y t run = subst (λ dice. Run p dice t) (rolled_turned x y) run

pub allowed_turned : (p : Position) (x y : ℕ) (t : List Move) → Allowed p x y t → Allowed p y x t
allowed_turned p x y t (run, inl f) = (turned_run p x y t run, inl f)
allowed_turned p x y t (run, inr f) =
    let turn : max x y ≡ max y x = omega arith in
    (turned_run p x y t run, inr (λ ms r. f.0 ms (turned_run p y x ms r), λ e. f.1 (e.0, λ z. e.1 (sym z), e.3, e.2) ∙ turn))

pub listed_turned : (p : Position) (x y : ℕ) → Sound p → listed p x y ≡ listed p y x
listed_turned p x y o =
    let l = listed_is p x y o in
    the_listing p y x (listed p x y) o
    (record { only = λ t i. allowed_turned p x y t (l.only t i); every = λ t a. l.every t (allowed_turned p y x t a); ordered = l.ordered })

pub best_turned : (w : ℕ) (f : Position → ℕ) (p : Position) (x y : ℕ) → Sound p → best w f p (x, y) ≡ best w f p (y, x)
best_turned w f p x y o = ap (λ ts. greatest (map (after w f p) ts)) (listed_turned p x y o)
