-- The place by the ways.
use Rattle.std.proofs.Common.{◌≡◌, ℕ, zero, suc, ◌+◌, ◌-◌, ◌<◌, ◌≤◌, true, false, cond, List, [], ◌∷◌, map, length, sum, count_by, sym, refl, ap, ◌∙◌, inl, inr, arith, length-append}
use lib.ListN.{length-map}
use Rattle.std.proofs.lemmas.List.Sums.{sum_by-cons, sum_by-append}
use Rattle.std.proofs.lemmas.Bool.{cases_lt, lt-ltb, le-ltb, ne_eqb, eq-eqb}
use Rattle.endings.specs.Place.{before, upto, sides}
use Rattle.places.specs.Ways.{ways, rank}

abbrev first : ℕ → ℕ → ℕ → List (List ℕ)
first k n c = map (λ cs. c ∷ cs) (sides k (n - c))

-- the sides whose first count is below d
abbrev pub gone : ℕ → ℕ → ℕ → ℕ
gone k n zero = 0
gone k n (suc d) = gone k n d + ways k (n - d)

module _ (c d : ℕ) (ds : List ℕ) where
  all_before : (xs : List (List ℕ)) → c < d → count_by (λ cs. before cs (d ∷ ds)) (map (λ cs. c ∷ cs) xs) ≡ length xs
  all_before [] l = refl
  all_before (x ∷ xs) l =
      let e : before (c ∷ x) (d ∷ ds) ≡ true = rw (lt-ltb c d l) in
      let f : ◌≡◌ {A = ℕ} (cond (before (c ∷ x) (d ∷ ds)) 1 0) 1 = rw e in
      omega (arith, sum_by-cons (λ cs. cond (before cs (d ∷ ds)) 1 0) (c ∷ x) (map (λ cs. c ∷ cs) xs), f, all_before xs l)

  none_before : (xs : List (List ℕ)) → d < c → count_by (λ cs. before cs (d ∷ ds)) (map (λ cs. c ∷ cs) xs) ≡ 0
  none_before [] l = refl
  none_before (x ∷ xs) l =
      let e : before (c ∷ x) (d ∷ ds) ≡ false = rw (le-ltb c d (omega arith), ne_eqb c d (λ z. omega arith)) in
      let f : ◌≡◌ {A = ℕ} (cond (before (c ∷ x) (d ∷ ds)) 1 0) 0 = rw e in
      omega (arith, sum_by-cons (λ cs. cond (before cs (d ∷ ds)) 1 0) (c ∷ x) (map (λ cs. c ∷ cs) xs), f, none_before xs l)

some_before : (d : ℕ) (ds : List ℕ) (xs : List (List ℕ)) → count_by (λ cs. before cs (d ∷ ds)) (map (λ cs. d ∷ cs) xs) ≡ count_by (λ cs. before cs ds) xs
some_before d ds [] = refl
some_before d ds (x ∷ xs) =
    let e : before (d ∷ x) (d ∷ ds) ≡ before x ds = rw (le-ltb d d (omega arith), eq-eqb d d refl) in
    let f : ◌≡◌ {A = ℕ} (cond (before (d ∷ x) (d ∷ ds)) 1 0) (cond (before x ds) 1 0) = rw e in
    omega (arith, sum_by-cons (λ cs. cond (before cs (d ∷ ds)) 1 0) (d ∷ x) (map (λ cs. d ∷ cs) xs), sum_by-cons (λ cs. cond (before cs ds) 1 0) x xs, f, some_before d ds xs)

module _ (k n d : ℕ) (ds : List ℕ) where
  abbrev tests : List (List ℕ) → ℕ
  tests xs = count_by (λ cs. before cs (d ∷ ds)) xs

  below : (m : ℕ) → m < d → tests (upto (first k n) m) ≡ gone k n (suc m)
  unfolding ways
  below zero l = all_before 0 d ds (sides k (n - 0)) l ∙ omega arith
  below (suc m) l =
      omega (arith, sum_by-append (λ cs. cond (before cs (d ∷ ds)) 1 0) (upto (first k n) m) (first k n (suc m)), below m (omega arith), all_before (suc m) d ds (sides k (n - suc m)) l)

  pub above : (m : ℕ) → d ≤ m → tests (upto (first k n) m) ≡ gone k n d + count_by (λ cs. before cs ds) (sides k (n - d))
  above zero l = let e : d ≡ 0 = omega arith in rw e (some_before 0 ds (sides k (n - 0)) ∙ omega arith)
  above (suc m) l =
      let s = sum_by-append (λ cs. cond (before cs (d ∷ ds)) 1 0) (upto (first k n) m) (first k n (suc m)) in
      elim (cases_lt d (suc m)) [
        | inl h ↦ omega (arith, s, above m (omega arith), none_before (suc m) d ds (sides k (n - suc m)) h)
        | inr h ↦ (let e : suc m ≡ d = omega arith in
            let v : tests (first k n (suc m)) ≡ count_by (λ cs. before cs ds) (sides k (n - d)) = rw e (some_before d ds (sides k (n - d))) in
            let g : gone k n (suc m) ≡ gone k n d = ap (gone k n) e in
            omega (arith, s, below m (omega arith), v, g))
      ]

upto-first : {X : Type 0} (f : ℕ → List X) (n : ℕ) → length (upto f (suc n)) ≡ length (f 0) + length (upto (λ c. f (suc c)) n)
upto-first f zero = length-append (f 0) (f 1)
upto-first f (suc n) = omega (arith, length-append (upto f (suc n)) (f (suc (suc n))), upto-first f n, length-append (upto (λ c. f (suc c)) n) (f (suc (suc n))))

upto-same : {X : Type 0} (f g : ℕ → List X) (n : ℕ) → ((c : ℕ) → length (f c) ≡ length (g c)) → length (upto f n) ≡ length (upto g n)
upto-same f g zero e = e 0
upto-same f g (suc n) e = omega (arith, length-append (upto f n) (f (suc n)), length-append (upto g n) (g (suc n)), upto-same f g n e, e (suc n))

-- as in the triangle of binomials
pub ways-more : (k n : ℕ) → ways (suc k) (suc n) ≡ ways k (suc n) + ways (suc k) n
unfolding ways sides
ways-more k n =
    let z : suc n - 0 ≡ suc n = omega arith in
    let a : length (first k (suc n) 0) ≡ length (sides k (suc n)) = length-map (sides k (suc n - 0)) (λ cs. 0 ∷ cs) ∙ rw z in
    let b = upto-same (λ c. first k (suc n) (suc c)) (first k n) n
    (λ c. let e : suc n - suc c ≡ n - c = omega arith in length-map (sides k (suc n - suc c)) (λ cs. suc c ∷ cs) ∙ ap (λ v. length (sides k v)) e ∙ sym (length-map (sides k (n - c)) (λ cs. c ∷ cs)))
    in
    omega (arith, upto-first (first k (suc n)) n, a, b)

pub gone_is : (k n d : ℕ) → d ≤ n → gone k n d + ways (suc k) (n - d) ≡ ways (suc k) n
gone_is k n zero l = let e : n - 0 ≡ n = omega arith in rw e (omega arith)
gone_is k n (suc d) l =
    let e : n - d ≡ suc (n - suc d) = omega arith in
    let h : ways (suc k) (n - d) ≡ ways k (n - d) + ways (suc k) (n - suc d) = rw e (ways-more k (n - suc d)) in
    omega (arith, gone_is k n d (omega arith), h)

pub rank_is : (k n : ℕ) (cs : List ℕ) → length cs ≡ k → sum cs ≤ n → count_by (λ c. before c cs) (sides k n) ≡ rank k n cs
unfolding sides
rank_is zero n [] e l = refl
rank_is zero n (c ∷ cs) e l = absurd (omega arith)
rank_is (suc k) n [] e l = absurd (omega arith)
rank_is (suc k) n (c ∷ cs) e l =
    let s = sum_by-cons (λ x. x) c cs in
    omega (arith, above k n c cs n (omega (arith, s)), gone_is k n c (omega (arith, s)), rank_is k (n - c) cs (omega arith) (omega (arith, s)))
