-- The entry that is reckoned over places is the defined one.
use Rattle.std.proofs.Common.{◌≡◌, ℕ, ◌<◌, ◌≤◌, List, [], ◌∷◌, map, fold, sym, refl, ap, ◌∙◌, subst, inl, inr, arith}
use Rattle.std.proofs.lemmas.Bool.{cases_lt, le-leb, lt-leb, lt-ltb}
use Rattle.board.specs.Position.{Position}
use Rattle.turns.specs.Roll.{Roll}
use Rattle.listing.specs.Listing.{In}
use Rattle.listing.specs.Order.{greatest, listed}
use Rattle.listing.proofs.Listed.{listed_is}
use Rattle.chance.specs.declared.kind.Chance.{Ghosts}
use Rattle.endings.specs.Ending.{EndingFor}
use Rattle.endings.specs.Length.{length_of, more}
use Rattle.endings.specs.Rolls.{TwoDice, rolls, weight}
use Rattle.endings.specs.Place.{place, places_of}
use Rattle.endings.proofs.Lists.{map_same}
use Rattle.endings.proofs.Lengths.{sound}
use Rattle.endings.proofs.Rolls.{rolls-fine}
use Rattle.endings.proofs.Short.{length_short}
use Rattle.values.specs.Best.{best_from_first, best_value, sum_value}
use Rattle.values.specs.Entry.{value_entry}
use Rattle.values.specs.Laws.{Reached, Entered, Younger}
use Rattle.values.proofs.Exact.{length_from}
use Rattle.values.proofs.Judging.{judged, summed}
use Rattle.values.proofs.Entries.{best_alike, sum_alike, step, past, entered, others}
use Rattle.tables.specs.Parts.{best_place, most_length}
use Rattle.tables.specs.Led.{facing, places_led_to}
use Rattle.tables.specs.Sums.{sum_over, settled, entry_length, entry_value}
use Rattle.tables.specs.Filled.{tabled, tabled_length, ValuesBelow, Below, EntryOf, SoundEntry, SoundBest}
use Rattle.tables.proofs.Visiting.{map_twice}
use Rattle.tables.proofs.Linked.{led_alike, after_linked, length_linked}

module _ (n : ℕ) (p : Position) (e : EndingFor n p) where
  pub length-best : (lengths : List ℕ) (r : TwoDice) → Roll r.0 r.1 → most_length (places_of n) lengths (place n p.other) (places_led_to n p r) ≡ greatest (map (more (tabled_length n lengths) p) (listed p r.0 r.1))
  length-best lengths r roll =
      ap greatest
      (sym (map_twice _ _ (listed p r.0 r.1))
      ∙ map_same _ _ (listed p r.0 r.1) (λ t i. length_linked n p r.0 r.1 t e roll ((listed_is p r.0 r.1 (sound p e.ending)).only t i) lengths))

  module _ {V S R : Type 0} (k : Ghosts V S R) (rows : List R) where
    pub best_linked : (r : TwoDice) → Roll r.0 r.1 → best_place k (places_of n) rows (place n p.other) (places_led_to n p r) ≡ best_value k (tabled k n rows) p r
    best_linked r roll =
        ap (best_from_first k)
        (sym (map_twice _ _ (listed p r.0 r.1))
        ∙ map_same _ _ (listed p r.0 r.1) (λ t i. after_linked n p r.0 r.1 t e roll ((listed_is p r.0 r.1 (sound p e.ending)).only t i) k rows))

    sum_by : (s : S) (rs : List TwoDice) → ((r : TwoDice) → In r rs → Roll r.0 r.1) → sum_over k (places_of n) rows (place n p.other) s rs (map (places_led_to n (facing p.own)) rs) ≡ fold (λ s r. k.added s (weight r) (best_value k (tabled k n rows) p r)) s rs
    sum_by s [] fine = refl
    sum_by s (r ∷ rs) fine =
        let same : best_place k (places_of n) rows (place n p.other) (places_led_to n (facing p.own) r) ≡ best_value k (tabled k n rows) p r =
        ap (best_place k (places_of n) rows (place n p.other)) (led_alike n p r e.ending) ∙ best_linked r (fine r (inl refl))
        in
        ap (λ v. sum_over k (places_of n) rows (place n p.other) (k.added s (weight r) v) rs (map (places_led_to n (facing p.own)) rs)) same ∙ sum_by (k.added s (weight r) (best_value k (tabled k n rows) p r)) rs (λ q i. fine q (inr i))

    pub sum_linked : sum_over k (places_of n) rows (place n p.other) k.empty rolls (map (places_led_to n (facing p.own)) rolls) ≡ sum_value k (tabled k n rows) p
    unfolding sum_value
    sum_linked = sum_by k.empty rolls rolls-fine

-- the length, from lengths that are the defined ones at the endings to which p leads
length-entered : (n : ℕ) (p : Position) (lengths : List ℕ) → n ≤ 6 → EndingFor n p → ((q : Position) → Reached p q → tabled_length n lengths q ≡ length_of q) → entry_length (places_of n) lengths (place n p.other) (map (places_led_to n (facing p.own)) rolls) ≡ length_of p
unfolding entry_length
length-entered n p lengths six e below =
    let by : map (most_length (places_of n) lengths (place n p.other)) (map (places_led_to n (facing p.own)) rolls) ≡ map (λ r. greatest (map (more (tabled_length n lengths) p) (listed p r.0 r.1))) rolls =
    sym (map_twice _ _ rolls)
    ∙ map_same _ _ rolls (λ r i. ap (most_length (places_of n) lengths (place n p.other)) (led_alike n p r e.ending) ∙ length-best n p e lengths r (rolls-fine r i))
    in
    omega (arith, ap greatest by, length_from (tabled_length n lengths) p e.ending below, length_short n p e)

module _ {V S R : Type 0} (k : Ghosts V S R) (n : ℕ) (p : Position) (e : EndingFor n p) (rows : List R) (below : ValuesBelow k n p rows) where
  pub best-entered : (r : TwoDice) → Roll r.0 r.1 → best_place k (places_of n) rows (place n p.other) (places_led_to n p r) ≡ best_value k (value_entry k) p r
  best-entered r roll = best_linked n p e k rows r roll ∙ best_alike k (tabled k n rows) (value_entry k) p r.0 r.1 e.ending roll below

  full_settled : (s : S) (v : V) → k.weight s ≡ 36 → k.oldest s < k.REACH → k.closed s ≡ v → settled k (places_of n) rows (place n p.other) s ≡ v
  full_settled s v w o c = let a = le-leb 36 (k.weight s) (omega arith) in let b = lt-ltb (k.oldest s) k.REACH o in rw (a, b) c

  value_entered : entry_value k (places_of n) rows (place n p.other) (length_of p) (map (places_led_to n (facing p.own)) rolls) ≡ value_entry k p
  unfolding entry_value
  value_entered =
      elim (cases_lt k.REACH (length_of p)) [
        | inl o ↦ (let z = lt-leb (length_of p) k.REACH o in rw z (sym (past k p e.ending o)))
        | inr o ↦
            (let z = le-leb (length_of p) k.REACH o in
            let sum = sum_linked n p e k rows ∙ sum_alike k (tabled k n rows) (value_entry k) p e.ending below in
            let held = summed k (value_entry k) p e.ending (others k p o) o in
            rw (z, sum) (full_settled (sum_value k (value_entry k) p) (value_entry k p) held.full held.young (sym (step k p e.ending o))))
      ]

pub entry_of : {V S R : Type 0} (k : Ghosts V S R) (n : ℕ) (p : Position) (lengths : List ℕ) (rows : List R) (r : ℕ × V) → n ≤ 6 → EndingFor n p → Below k n p lengths rows → r ≡ (entry_length (places_of n) lengths (place n p.other) (map (places_led_to n (facing p.own)) rolls), entry_value k (places_of n) rows (place n p.other) (entry_length (places_of n) lengths (place n p.other) (map (places_led_to n (facing p.own)) rolls)) (map (places_led_to n (facing p.own)) rolls)) → EntryOf k p r
entry_of k n p lengths rows r six e below is =
    let long = length-entered n p lengths six e below.long in
    let value = ap (λ q. q.1) is ∙ ap (λ m. entry_value k (places_of n) rows (place n p.other) m (map (places_led_to n (facing p.own)) rolls)) long ∙ value_entered k n p e rows below.values in
    record { length = ap (λ q. q.0) is ∙ long; value = value; holds = λ o. subst (Entered k p) (sym value) (entered k p e.ending o) }

pub sound-entry : {V S R : Type 0} (k : Ghosts V S R) (size b : ℕ) (lists : List (List ℕ)) (lengths : List ℕ) (rows : List R) (r : ℕ × V) → r ≡ (entry_length size lengths b lists, entry_value k size rows b (entry_length size lengths b lists) lists) → SoundEntry k size b lists lengths rows r
sound-entry k size b lists lengths rows r is n p six e s o l below = entry_of k n p lengths rows r six e below (rw (s, o, l) at is)

pub sound-best : {V S R : Type 0} (k : Ghosts V S R) (n : ℕ) (p : Position) (r : TwoDice) (rows : List R) (v : V) → EndingFor n p → Roll r.0 r.1 → v ≡ best_place k (places_of n) rows (place n p.other) (places_led_to n p r) → SoundBest k n p r rows v
sound-best k n p r rows v e roll is =
    record {
      value = λ below. is ∙ best-entered k n p e rows below r roll;
      holds = λ below o. subst (Younger k p _) (sym (is ∙ best-entered k n p e rows below r roll)) ((judged k (value_entry k) p e.ending (others k p o)).bests r.0 r.1 roll);
    }
