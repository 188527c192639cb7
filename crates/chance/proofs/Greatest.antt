-- Taking the greater of fractions one after another gives the greatest of them.
use Rattle.std.proofs.Common.{ℕ, ◌*◌, leb, List, [], ◌∷◌, fold, inl, inr, le_refl, mul-le-mul_right, le_of_mul-le-mul_right, arith}
use Rattle.std.specs.List.{AllByRecursion}
use Rattle.std.proofs.lemmas.Bool.{cond_both, leb-true, leb-false}
use Rattle.chance.specs.Fraction.{Fraction, Same, Holds, greater}
use Rattle.chance.specs.Greatest.{AtMost, Reached, Greatest}
use Rattle.chance.proofs.Fractions.{same-held}

pub at_most_trans : (p q r : Fraction) → AtMost p q → AtMost q r → AtMost p r
at_most_trans p q r h i =
    let a = mul-le-mul_right r.den h in
    let b = mul-le-mul_right p.den i in
    le_of_mul-le-mul_right {k = q.den} (omega arith) q.above

-- what is so of both is so of the greater
of_greater : (P : Fraction → Type 0) (p q : Fraction) → (AtMost p q → P q) → (AtMost q p → P p) → P (greater p q)
of_greater P p q f g = cond_both (leb (p.num * q.den) (q.num * p.den)) q p P (λ e. f (leb-true _ _ e)) (λ e. let h = leb-false _ _ e in g (omega arith))

pub greater-left : (p q : Fraction) → AtMost p (greater p q)
greater-left p q = of_greater (λ r. AtMost p r) p q (λ h. h) (λ h. le_refl _)

pub greater_right : (p q : Fraction) → AtMost q (greater p q)
greater_right p q = of_greater (λ r. AtMost q r) p q (λ h. le_refl _) (λ h. h)

-- each of the fractions is at most the last of them so taken
bounds : (q : Fraction) (qs : List Fraction) → AtMost q (fold greater q qs) × AllByRecursion (λ p. AtMost p (fold greater q qs)) qs
bounds q [] = (le_refl _, tt)
bounds q (p ∷ ps) =
    let h = bounds (greater q p) ps in
    let last = fold greater (greater q p) ps in
    (at_most_trans q (greater q p) last (greater-left q p) h.0, (at_most_trans p (greater q p) last (greater_right q p) h.0, h.1))

below : (g q : Fraction) (qs : List Fraction) → AtMost q g → AllByRecursion (λ p. AtMost p g) qs → AtMost (fold greater q qs) g
below g q [] h a = h
below g q (p ∷ ps) h a = below g (greater q p) ps (of_greater (λ r. AtMost r g) q p (λ _. a.0) (λ _. h)) a.1

reaching : (g f : Fraction) (qs : List Fraction) → Reached g qs → AllByRecursion (λ p. AtMost p f) qs → AtMost g f
reaching g f [] r a = absurd r
reaching g f (q ∷ qs) (inl h) a = at_most_trans g q f h a.0
reaching g f (q ∷ qs) (inr r) a = reaching g f qs r a.1

pub greatest-same : (g q : Fraction) (qs : List Fraction) → Greatest g (q ∷ qs) → Same (fold greater q qs) g
greatest-same g q qs h =
    let low = below g q qs h.above.0 h.above.1 in
    let high = reaching g (fold greater q qs) (q ∷ qs) h.reached (bounds q qs) in
    omega arith

pub greatest-held : (s l u : ℕ) (g q : Fraction) (qs : List Fraction) → Greatest g (q ∷ qs) → Holds s l u (fold greater q qs) → Holds s l u g
greatest-held s l u g q qs h = same-held s l u (fold greater q qs) g (greatest-same g q qs h)
