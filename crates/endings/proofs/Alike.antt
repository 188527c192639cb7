-- The turns of a home side do not depend on the other side, so long as that is home.
use Rattle.std.proofs.Common.{◌≡◌, ℕ, ◌-◌, List, [], ◌∷◌, sym, refl, ap, ◌∙◌, subst, inl, inr, arith}
use Rattle.board.specs.Side.{on, less, shifted}
use Rattle.board.specs.Position.{Position}
use Rattle.board.specs.Single.{Legal, moved}
use Rattle.turns.specs.Runs.{Move, Run, played}
use Rattle.turns.specs.Roll.{rolled}
use Rattle.turns.specs.Turns.{Allowed}
use Rattle.listing.specs.Order.{listed}
use Rattle.listing.specs.Laws.{Sound}
use Rattle.listing.proofs.Listed.{listed_is}
use Rattle.listing.proofs.Unique.{one-listing}
use Rattle.endings.specs.Ending.{Home}
use Rattle.endings.proofs.Shifts.{start_home}
use Rattle.endings.proofs.Homes.{less_far, moved_home, moved_other}

-- the same own side against another
abbrev pub against : Position → List ℕ → Position
against p o = record { own = p.own; other = o }

-- where the own side goes rests on it alone
pub own_same : (p q : Position) (t : List Move) → p.own ≡ q.own → (played p t).own ≡ (played q t).own
own_same p q [] e = e
own_same p q (m ∷ ms) e = own_same (moved p m.0 m.1) (moved q m.0 m.1) ms (ap (λ side. shifted side m.0 (m.0 - m.1)) e)

module _ (p : Position) (o : List ℕ) (s d : ℕ) (a : Home p.own) (b : Home p.other) (c : Home o) (legal : Legal p s d) where
  legal_against : Legal (against p o) s d
  legal_against =
      record {
        die = legal.die;
        start = legal.start;
        has = legal.has;
        bar = legal.bar;
        free = λ l. omega (arith, c.none (25 - (s - d)) (omega (arith, start_home p.own s (s - d) a legal.start.0 legal.start.1 (less_far p s d a b legal) legal.has)) (omega arith));
        home = legal.home;
        far = legal.far;
      }

  moved-against : moved (against p o) s d ≡ against (moved p s d) o
  moved-against = λ i. record { own = (moved p s d).own; other = moved_other (against p o) s d a c legal_against i }

run_against : (p : Position) (o dice : List ℕ) (t : List Move) → Home p.own → Home p.other → Home o → Run p dice t → Run (against p o) dice t
run_against p o dice [] a b c run = tt
run_against p o dice (m ∷ ms) a b c run =
    let q = moved p m.0 m.1 in
    let b' = subst Home (sym (moved_other p m.0 m.1 a b run.1)) b in
    let r = run_against q o (less dice m.1) ms (moved_home p m.0 m.1 a b run.1) b' c run.2 in (
      run.0,
      legal_against p o m.0 m.1 a b c run.1,
      subst (λ v. Run v (less dice m.1) ms) (sym (moved-against p o m.0 m.1 a b c run.1)) r,
    )

allowed_against : (p : Position) (o : List ℕ) (x y : ℕ) (t : List Move) → Home p.own → Home p.other → Home o → Allowed p x y t → Allowed (against p o) x y t
allowed_against p o x y t a b c (run, inl f) = (run_against p o (rolled x y) t a b c run, inl (f.0, ap (λ side. on side 0) (own_same (against p o) p t refl) ∙ f.1))
allowed_against p o x y t a b c (run, inr f) = (
  run_against p o (rolled x y) t a b c run,
  inr (
    λ ms r. f.0 ms (run_against (against p o) p.other (rolled x y) ms a c b r),
    λ e. f.1 (e.0, e.1, back e.2, back e.3),
  ),
)
  where
    back : {d : ℕ} → (s : ℕ) × Legal (against p o) s d → (s : ℕ) × Legal p s d
    back {d} l = (l.0, legal_against (against p o) p.other l.0 d a c b l.1)

listed-against : (p : Position) (o : List ℕ) (x y : ℕ) → Home p.own → Home p.other → Home o → listed p x y ≡ listed (against p o) x y
listed-against p o x y a b c =
    let sound : Sound p = record { long = a.long; complete = a.complete } in
    let l = listed_is p x y sound in
    one-listing (against p o) x y (listed p x y) (listed (against p o) x y)
    (record {
      only = λ t i. allowed_against p o x y t a b c (l.only t i);
      every = λ t f. l.every t (allowed_against (against p o) p.other x y t a c b f);
      ordered = l.ordered;
    })
    (listed_is (against p o) x y (record { long = a.long; complete = a.complete }))

-- one own side has one listing against any other that is home
pub listed_same : (p q : Position) (x y : ℕ) → Home p.own → Home p.other → Home q.other → p.own ≡ q.own → listed p x y ≡ listed q x y
listed_same p q x y a b c e =
    let is : against p q.other ≡ q = λ i. record { own = e i; other = q.other } in
    listed-against p q.other x y a b c ∙ ap (λ v. listed v x y) is
