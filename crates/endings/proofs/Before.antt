-- The order of counts.
use Rattle.std.proofs.Common.{◌≡◌, ℕ, zero, suc, ◌<◌, ◌≤◌, true, false, eqb, ltb, ◌⊎◌, List, [], ◌∷◌, sum, sym, refl, ◌∙◌, subst, inl, inr, arith}
use Rattle.std.proofs.lemmas.List.Sums.{sum_by-cons}
use Rattle.std.proofs.lemmas.Bool.{cases_lt, cases_Bool, and_parts, and_from, and_right, or_cases, or_left, or_right, eqb-true, eq-eqb, ltb-true, lt-ltb, le-ltb, false≢true, both_ways}
use Rattle.board.specs.Side.{on}
use Rattle.endings.specs.Place.{before, counts_from}

pub not_self : (cs : List ℕ) → before cs cs ≡ false
not_self [] = refl
not_self (c ∷ cs) = rw (le-ltb c c (omega arith), eq-eqb c c refl) (not_self cs)

pub in_turn : (xs bs cs : List ℕ) → before xs bs ≡ true → before bs cs ≡ true → before xs cs ≡ true
in_turn [] bs cs e f = absurd (false≢true e)
in_turn (a ∷ xs) [] cs e f = absurd (false≢true e)
in_turn (a ∷ xs) (b ∷ bs) [] e f = absurd (false≢true f)
in_turn (a ∷ xs) (b ∷ bs) (c ∷ cs) e f =
    elim (or_cases (ltb a b) _ e) [
      | inl u ↦
          elim (or_cases (ltb b c) _ f) [
            | inl v ↦ or_left (ltb a c) _ (lt-ltb a c (omega (arith, ltb-true a b u, ltb-true b c v)))
            | inr v ↦ or_left (ltb a c) _ (lt-ltb a c (omega (arith, ltb-true a b u, eqb-true b c (and_parts (eqb b c) _ v).0)))
          ]
      | inr u ↦
          (let u' = and_parts (eqb a b) _ u in
          elim (or_cases (ltb b c) _ f) [
            | inl v ↦ or_left (ltb a c) _ (lt-ltb a c (omega (arith, eqb-true a b u'.0, ltb-true b c v)))
            | inr v ↦
                (let v' = and_parts (eqb b c) _ v in
                or_right (ltb a c) _ (and_from (eqb a c) _ (eq-eqb a c (eqb-true a b u'.0 ∙ eqb-true b c v'.0)) (in_turn xs bs cs u'.1 v'.1)))
          ])
    ]

pub later_not : (x y : List ℕ) → before x y ≡ true → before y x ≡ false
later_not x y e =
    elim (cases_Bool (before y x)) [ inr f ↦ f | inl f ↦ absurd (both_ways (before x x) (not_self x) (in_turn x y x e f)) ]

-- one of two sides comes before the other, or they have the same counts
pub either : (k : ℕ) (a b : List ℕ) → (before (counts_from k a) (counts_from k b) ≡ true) ⊎ ((before (counts_from k b) (counts_from k a) ≡ true) ⊎ (counts_from k a ≡ counts_from k b))
either zero a b = inr (inr refl)
either (suc k) a b =
    elim (cases_lt (on a (suc k)) (on b (suc k))) [
      | inl l ↦ inl (or_left (ltb (on a (suc k)) (on b (suc k))) _ (lt-ltb _ _ l))
      | inr l ↦
          elim (cases_lt (on b (suc k)) (on a (suc k))) [
            | inl m ↦ inr (inl (or_left (ltb (on b (suc k)) (on a (suc k))) _ (lt-ltb _ _ m)))
            | inr m ↦
                (let e : on a (suc k) ≡ on b (suc k) = omega arith in
                elim (either k a b) [
                  | inl h ↦ inl (or_right (ltb (on a (suc k)) (on b (suc k))) _ (and_from _ _ (eq-eqb _ _ e) h))
                  | inr h ↦ elim h [
                    | inl h' ↦ inr (inl (or_right (ltb (on b (suc k)) (on a (suc k))) _ (and_from _ _ (eq-eqb _ _ (sym e)) h')))
                    | inr h' ↦ inr (inr (rw (e, h')))
                  ]
                ])
          ]
    ]

pub first-less : (k s : ℕ) (a b : List ℕ) → 1 ≤ s → s ≤ k → ((q : ℕ) → s < q → on a q ≡ on b q) → on a s < on b s → before (counts_from k a) (counts_from k b) ≡ true
first-less zero s a b i j same l = absurd (omega arith)
first-less (suc k) s a b i j same l =
    elim (cases_lt s (suc k)) [
      | inl h ↦ or_right (ltb (on a (suc k)) (on b (suc k))) _ (and_from (eqb (on a (suc k)) (on b (suc k))) _ (eq-eqb _ _ (same (suc k) h)) (first-less k s a b i (omega arith) same l))
      | inr h ↦ (let e : s ≡ suc k = omega arith in or_left (ltb (on a (suc k)) (on b (suc k))) _ (lt-ltb _ _ (subst (λ q. on a q < on b q) e l)))
    ]

-- nothing comes before none at all
pub none_before : (cs ds : List ℕ) → sum ds ≡ 0 → before cs ds ≡ false
none_before [] ds e = refl
none_before (c ∷ cs) [] e = refl
none_before (c ∷ cs) (d ∷ ds) e =
    let s = sum_by-cons (λ x. x) d ds in
    rw (le-ltb c d (omega (arith, s))) (and_right (eqb c d) (before cs ds) (none_before cs ds (omega (arith, s))))
