-- What `reduce` leaves of a chain of items.
use Rattle.std.proofs.Common.{◌≡◌, List, [], ◌∷◌, fold, Some, None, Option, sym, refl, ap, ◌∙◌, subst}
use mathlib.Core.List.{map-id}
use denote.Param.Members.{Mut}
use Rattle.std.specs.Fn.{Called}
use Rattle.std.specs.Iterator.{Drains, FoldTurn}
use Rattle.std.specs.List.{FoldsTo, reduce}
use Rattle.std.specs.Option.{MatchOption}
use Rattle.std.proofs.iter.Yields.{gives_Drains}
use Rattle.std.proofs.lemmas.Iterator.{YieldsList}

module _ {A F : Type 0} (g : Mut F (A × (A × Unit {0})) A) (h : A → A → A) (f : F) (acts : (a x r : A) (q : F) → Called g f (a, (x, tt)) r q → (q ≡ f) × (r ≡ h a x)) where
  folds : (xs : List A) (p q : F × A) → p.0 ≡ f → FoldsTo {P = F × A} (FoldTurn g) p xs q → q.1 ≡ fold h p.1 xs
  folds [] p q a c = ap (λ (w : F × A). w.1) (sym c)
  folds (x ∷ xs) p q a c =
      let m = acts p.1 x c.0.1 c.0.0 (subst (λ w. Called g w (p.1, (x, tt)) c.0.1 c.0.0) a c.1) in
      folds xs c.0 q m.0 c.2 ∙ ap (λ b. fold h b xs) m.1

  pub reduced : {S : Type 0} {steps : S → Option A → S → Type 0} {all : List A} (s : S) (r : Option A) → MatchOption r (Drains steps s []) (λ y. (x : A) × (xs : List A) × (f' : F) × Drains steps s (x ∷ xs) × FoldsTo {P = F × A} (FoldTurn g) (f, x) xs (f', y)) → YieldsList steps (λ x. x) s all → r ≡ reduce h all
  reduced {steps = steps} {all} s None d e = ap (reduce h) (gives_Drains steps (λ x. x) [] all s e.runs d)
  reduced {steps = steps} {all} s (Some y) d e =
      ap Some (folds d.1 (f, d.0) (d.2, y) refl d.4) ∙ ap (reduce h) (sym (map-id (d.0 ∷ d.1)) ∙ gives_Drains steps (λ x. x) (d.0 ∷ d.1) all s e.runs d.3)
