-- `turns` lists the allowed turns.
use Rattle.std.proofs.Common.{◌≡◌, ℕ, ◌≤◌, max, true, ◌==◌, ◌⊎◌, List, [], ◌∷◌, length, Some, None, Option, refl, inl, inr, arith}
use Rattle.std.proofs.lemmas.Bool.{or_cases}
use Rattle.std.proofs.lemmas.Bool.Decides.{nat_tests}
use Rattle.board.specs.Side.{on, checkers}
use Rattle.board.specs.Position.{Position}
use Rattle.board.specs.Single.{moved}
use Rattle.turns.specs.Runs.{Move, Run, Most, played}
use Rattle.turns.specs.Roll.{rolled}
use Rattle.turns.specs.Turns.{Allowed, AsMany}
use Rattle.listing.specs.Order.{off, meets, turns}
use Rattle.listing.specs.Showing.{Dues, OneOfTwo}
use Rattle.listing.specs.Laws.{Sound}
use Rattle.listing.specs.Listing.{Listing}
use Rattle.listing.proofs.Holds.{none_off, Meets, Ends, held, holds, in_order}

pub meets_none : (b : Position) (t : List Move) → Meets None b t
unfolding Meets
meets_none b [] = tt
meets_none b (m ∷ ms) = (refl, meets_none (moved b m.0 m.1) ms)

-- a move that meets the due die, and a turn whose moves do
module _ (b : Position) (x y m : ℕ) where
  met : (due : Option ℕ) (after : Position) (d : ℕ) → Dues b x y m due → meets due after d ≡ true → (OneOfTwo b x y m → ⊥) ⊎ (OneOfTwo b x y m × ((d ≡ max x y) ⊎ (on after.own 0 ≡ checkers)))
  met None after d no' e = inl no'
  met (Some due) after d way e =
      inr (way.0, elim (or_cases (d == due) (off after) e) [ inl f ↦ inl (grind (arith, nat_tests, way.1)) | inr f ↦ inr (grind (arith, nat_tests)) ])

  all-meet : (due : Option ℕ) (t : List Move) → Dues b x y m due → length t ≤ m → Allowed b x y t → Meets due b t
  unfolding Meets
  all-meet None t no' short a = meets_none b t
  all-meet (Some due) [] way short a = tt
  all-meet (Some due) (n ∷ []) way short a =
      (elim a.1 [ inl f ↦ grind (arith, nat_tests, f.1) | inr f ↦ grind (arith, nat_tests, way.1, f.1 (refl, way.0.1, way.0.2, way.0.3)) ], tt)
  all-meet (Some due) (n ∷ (k ∷ us)) way short a = absurd (omega (arith, way.0.0, short))

module _ (b : Position) (x y m : ℕ) (due : Option ℕ) (o : Sound b) (most : Most b (rolled x y) m) (dues : Dues b x y m due) where
  only_allowed : (t : List Move) → Run b (rolled x y) t → Meets due b t → Ends m b t → Allowed b x y t
  unfolding Meets Ends
  only_allowed [] run meets' ends = (
    run,
    inr (
      elim ends.1 [
        | inl e ↦ (λ ms r. omega (arith, most.none ms r))
        | inr e ↦ none e
      ],
      λ z. absurd (omega (arith, z.0)),
    ),
  )
    where
      none : on b.own 0 ≡ checkers → (ms : List Move) → Run b (rolled x y) ms → length ms ≤ 0
      none e [] r = omega arith
      none e (n ∷ ms) r = absurd (none_off b n.0 n.1 o r.1 e)
  only_allowed (n ∷ ms) run meets' ends =
      elim ends.1 [
        | inr e ↦ (run, inl (omega arith, e))
        | inl e ↦
            (let many : AsMany b (rolled x y) (n ∷ ms) = λ us r. omega (arith, most.none us r) in
            elim (met b x y m due (moved b n.0 n.1) n.1 dues meets'.0) [
              | inl no' ↦ (run, inr (many, λ z. absurd (no' (omega (arith, z.0), z.1, z.2, z.3))))
              | inr way ↦
                  elim way.1 [
                    | inl z ↦ (run, inr (many, λ _. z))
                    | inr z ↦ (run, inl (omega arith, one n.0 n.1 ms (omega (arith, way.0.0)) z))
                  ]
            ])
      ]
    where
      one : (s d : ℕ) (us : List Move) → length us ≡ 0 → on (moved b s d).own 0 ≡ checkers → on (played (moved b s d) us).own 0 ≡ checkers
      one s d [] e z = z
      one s d (u ∷ us) e z = absurd (omega arith)

  all_allowed : (t : List Move) → Allowed b x y t → Meets due b t × Ends m b t
  unfolding Ends
  all_allowed t a =
      let short = most.none t a.0 in (
        all-meet b x y m due t dues short a,
        (short, elim a.1 [ inl f ↦ inr f.1 | inr f ↦ inl (omega (arith, short, most.some.2, f.0 most.some.0 most.some.1)) ]),
      )

  pub listing : Listing b x y (turns due m b (rolled x y))
  listing =
      record {
        only = λ t i. let h = held due m b (rolled x y) t o i in only_allowed t h.0 h.1 h.2;
        every = λ t a. let h = all_allowed t a in holds due m b (rolled x y) t o a.0 h.0 h.1;
        ordered = in_order due m b (rolled x y);
      }
