-- There is one listing.
use Rattle.std.proofs.Common.{◌≡◌, ℕ, List, [], ◌∷◌, sym, refl, inl, inr, arith}
use Rattle.board.specs.Position.{Position}
use Rattle.turns.specs.Runs.{Move}
use Rattle.listing.specs.Listing.{In, Earlier, Ordered, Listing}

apart : (t u : List Move) → Earlier t u → Earlier u t → ⊥
apart [] u e f = e
apart (m ∷ ms) [] e f = e
apart (m ∷ ms) (n ∷ ns) e f = grind (arith, apart ms ns)

same : (ts us : List (List Move)) → Ordered ts → Ordered us → ((t : List Move) → In t ts → In t us) → ((t : List Move) → In t us → In t ts) → ts ≡ us
same [] [] o p f g = refl
same [] (u ∷ us) o p f g = absurd (g u (inl refl))
same (t ∷ ts) [] o p f g = absurd (f t (inl refl))
same (t ∷ ts) (u ∷ us) o p f g = rw (first, same ts us o.1 p.1 to from)
  where
    first : t ≡ u
    first = elim (f t (inl refl)) [ inl e ↦ e | inr i ↦ elim (g u (inl refl)) [ inl e ↦ sym e | inr j ↦ absurd (apart t u (o.0 u j) (p.0 t i)) ] ]

    to : (v : List Move) → In v ts → In v us
    to v i = elim (f v (inr i)) [ inr j ↦ j | inl e ↦ (let h : Earlier t t = rw (e, sym first) at (o.0 v i) in absurd (apart t t h h)) ]

    from : (v : List Move) → In v us → In v ts
    from v i = elim (g v (inr i)) [ inr j ↦ j | inl e ↦ (let h : Earlier u u = rw (e, first) at (p.0 v i) in absurd (apart u u h h)) ]

pub one-listing : (b : Position) (x y : ℕ) (ts us : List (List Move)) → Listing b x y ts → Listing b x y us → ts ≡ us
one-listing b x y ts us l m = same ts us l.ordered m.ordered (λ t i. m.every t (l.only t i)) (λ t i. l.every t (m.only t i))
