-- Over others that hold the exact chances of the endings to which an ending leads, so do afters, bests and the closed sum.
use Rattle.std.proofs.Common.{◌≡◌, ℕ, suc, ◌+◌, ◌-◌, ◌*◌, ◌^◌, ◌<◌, ◌≤◌, List, map, sum_by, sym, ◌∙◌, subst, inl, inr, zero-add, arith}
use native.Mathlib.Nat.{zero-max}
use Rattle.std.proofs.lemmas.Bool.{cases_Bool}
use Rattle.board.specs.Position.{Position, swapped}
use Rattle.turns.specs.Roll.{Roll}
use Rattle.turns.specs.Runs.{Move, played}
use Rattle.turns.specs.Turns.{Allowed}
use Rattle.listing.specs.Order.{off, greatest, listed}
use Rattle.listing.proofs.Listed.{listed_is}
use Rattle.chance.specs.Fraction.{over36}
use Rattle.chance.specs.Held.{Held}
use Rattle.chance.specs.declared.kind.Chance.{Ghosts}
use Rattle.chance.proofs.Powers.{whole_over, more_over}
use Rattle.endings.specs.Ending.{Ending}
use Rattle.endings.specs.Chance.{after, best, chance}
use Rattle.endings.specs.Exact.{exact}
use Rattle.endings.specs.Length.{more, length_of}
use Rattle.endings.specs.Rolls.{rolls, weight}
use Rattle.endings.proofs.Lists.{greatest_le}
use Rattle.endings.proofs.Rolls.{rolls-fine, weights}
use Rattle.endings.proofs.Lengths.{sound, longest_of, length_is, length_some}
use Rattle.endings.proofs.Settles.{chance-exact}
use Rattle.values.specs.Best.{after_value, best_value, sum_value}
use Rattle.values.specs.Laws.{Others, Judged, Summed}
use Rattle.values.proofs.Reaching.{reached}
use Rattle.values.proofs.Bests.{Aged, best_aged}
use Rattle.values.proofs.Sums.{Sums, as_is, empty-sum, sum_aged, closed_aged}

module _ {V S R : Type 0} (k : Ghosts V S R) where
  -- the chance over more rolls than the length is held alike
  pub over_more : (n : ℕ) (q : Position) (v : V) → Ending q → length_of q ≤ n → Held k v (over36 (length_of q) (chance (length_of q) q)) → Held k v (over36 n (chance n q))
  unfolding exact
  over_more n q v e l h =
      let m : ℕ = n - length_of q in
      let d : m + length_of q ≡ n = omega arith in
      let z : chance (length_of q) q * 36 ^ m ≡ chance n q = omega (arith, chance-exact n q e l) in
      let i = more_over _ _ _ (length_of q) m (chance (length_of q) q) h in
      subst (λ a. Held k v (over36 n a)) z (subst (λ j. Held k v (over36 j (chance (length_of q) q * 36 ^ m))) d i)

  module _ (others : Position → V) (p : Position) (e : Ending p) (below : Others k others p) where
    after-aged : (n x y : ℕ) (t : List Move) → length_of p ≤ suc n → Roll x y → Allowed p x y t → Aged k n (after_value k others p t) (after (36 ^ n) (chance n) p t) (more length_of p t)
    after-aged n x y t l d a = elim (cases_Bool (off (played p t))) [
      | inl h ↦ rw h (whole_over _ _ _ n k.rules.won_holds, k.rules.won_age)
      | inr h ↦
          (let q = reached p x y t e d a h in
          let v = below (swapped (played p t)) q in
          let i = over_more n (swapped (played p t)) _ q.ending (omega (arith, q.shorter)) v.holds in
          rw h (k.rules.turned_holds (others (swapped (played p t))) (over36 n (chance n (swapped (played p t)))) i, k.rules.turned_age (others (swapped (played p t))) ∙ v.age))
    ]

    best-of-aged : (n x y : ℕ) → length_of p ≤ suc n → Roll x y → Aged k n (best_value k others p (x, y)) (best (36 ^ n) (chance n) p (x, y)) (longest_of length_of p (x, y))
    best-of-aged n x y l d =
        best_aged k n (after_value k others p) (after (36 ^ n) (chance n) p) (more length_of p) (listed p x y) (λ t j. after-aged n x y t l d ((listed_is p x y (sound p e)).only t j))

    -- fewer rolls come after a turn than before it
    fewer : (x y : ℕ) (t : List Move) → Roll x y → Allowed p x y t → more length_of p t < length_of p
    fewer x y t d a = elim (cases_Bool (off (played p t))) [ inl h ↦ rw h (length_some p e) | inr h ↦ rw h (reached p x y t e d a h).shorter ]

    all-fewer : (x y : ℕ) → Roll x y → longest_of length_of p (x, y) < length_of p
    all-fewer x y d =
        let h = greatest_le (more length_of p) (length_of p - 1) (listed p x y) (λ t j. omega (arith, fewer x y t d ((listed_is p x y (sound p e)).only t j))) in
        omega (arith, h, length_some p e)

    pub judged : Judged k others p
    judged = record {
      afters = λ x y t d a. record {
        holds = λ n l. (after-aged n x y t l d a).0;
        age = omega (arith, (after-aged (length_of p) x y t (omega arith) d a).1, fewer x y t d a);
      };
      bests = λ x y d. record {
        holds = λ n l. (best-of-aged n x y l d).0;
        age = omega (arith, (best-of-aged (length_of p) x y (omega arith) d).1, all-fewer x y d);
      };
    }

    sums : (n : ℕ) → length_of p ≤ suc n → Sums k n (sum_by (λ r. weight r * best (36 ^ n) (chance n) p r) rolls) 36 (greatest (map (longest_of length_of p) rolls)) (sum_value k others p)
    unfolding sum_value
    sums n l =
        let full : 0 + sum_by weight rolls ≡ 36 = zero-add _ ∙ weights in
        as_is k n (zero-add _) full (zero-max _) (sum_aged k n (best_value k others p) (best (36 ^ n) (chance n) p) (longest_of length_of p) k.empty 0 0 0 rolls (empty-sum k n) (omega (arith, full)) (λ r i. best-of-aged n r.0 r.1 l (rolls-fine r i)))

    pub summed : length_of p ≤ k.REACH → Summed k others p
    unfolding chance
    summed o =
        let m : ℕ = greatest (map (longest_of length_of p) rolls) in
        let len : length_of p ≡ suc m = length_is p e in
        let s = sums m (omega arith) in
        let c = closed_aged k m _ m (sum_value k others p) s (omega arith) in
        record {
          full = s.weighs;
          young = omega (arith, s.old);
          entered = record { holds = subst (λ l. Held k (k.closed (sum_value k others p)) (over36 l (chance l p))) (sym len) c.0; age = c.1 ∙ sym len };
        }
