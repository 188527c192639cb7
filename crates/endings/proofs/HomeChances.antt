-- Exact chances and lengths of endings, reckoned on seven counts.
use Rattle.std.proofs.Common.{◌≡◌, ℕ, zero, suc, ◌-◌, ◌*◌, ◌^◌, ◌≤◌, cond, List, [], ◌∷◌, map, length, sum_by, refl, ap, ◌∙◌, inl, inr, arith}
use Rattle.std.proofs.lemmas.Bool.{cases_Bool}
use Rattle.board.specs.Position.{Position, swapped}
use Rattle.turns.specs.Runs.{played}
use Rattle.listing.specs.Order.{off, greatest, listed}
use Rattle.listing.specs.Listing.{In}
use Rattle.endings.specs.Ending.{Ending}
use Rattle.endings.specs.Rolls.{TwoDice, rolls, weight}
use Rattle.endings.specs.Chance.{best, chance}
use Rattle.endings.specs.Length.{more, lasts}
use Rattle.endings.proofs.Lists.{map_same, greatest_le, sum_same, any}
use Rattle.endings.proofs.HomeMoves.{at}
use Rattle.endings.proofs.HomeResults.{empty, results, next, empty-at, led_map}

-- the best of a roll: the whole where some turn finishes
abbrev pub home_best : ℕ → (List ℕ → ℕ) → List ℕ → TwoDice → ℕ
home_best w f a r =
    let cs = results a r in
    let v = greatest (map (λ c. w - f c) cs) in
    cond (any empty cs) w v

-- as `chance`
unfoldable pub home_chance : ℕ → List ℕ → List ℕ → ℕ
home_chance zero a b = 0
home_chance (suc n) a b = sum_by (λ r. weight r * home_best (36 ^ n) (home_chance n b) a r) rolls

-- as `lasts`
unfoldable pub home_lasts : ℕ → List ℕ → List ℕ → ℕ
home_lasts zero a b = 0
home_lasts (suc n) a b = suc (greatest (map (λ r. greatest (map (λ c. let v = home_lasts n b c in cond (empty c) 0 v) (results a r))) rolls))

pub exit : (w : ℕ) (g : List ℕ → ℕ) (cs : List (List ℕ)) → greatest (map (λ c. cond (empty c) w (w - g c)) cs) ≡ cond (any empty cs) w (greatest (map (λ c. w - g c) cs))
exit w g [] = refl
exit w g (c ∷ cs) =
    let h = exit w g cs in
    let l : greatest (map (λ c. cond (empty c) w (w - g c)) cs) ≤ w = greatest_le (λ c. cond (empty c) w (w - g c)) w cs (λ c _. elim (cases_Bool (empty c)) [ inl e ↦ rw e (omega arith) | inr e ↦ rw e (omega arith) ]) in
    elim (cases_Bool (empty c)) [
      | inl e ↦ rw e (omega (arith, l))
      | inr e ↦ elim (cases_Bool (any empty cs)) [ inl f ↦ (let h' = rw f at h in rw (e, f) (omega (arith, h'))) | inr f ↦ (let h' = rw f at h in rw (e, f, h')) ]
    ]

module _ (a b : List ℕ) (e : Ending (at a b)) (l : length a ≡ 7) (m : length b ≡ 7) (r : TwoDice) (i : In r rolls) where
  -- what is reckoned after the turns, w with the last checker off
  same_after : (w : ℕ) (u : ℕ → ℕ) (f : Position → ℕ) (g : List ℕ → ℕ) → ((c : List ℕ) → Ending (at b c) → length c ≡ 7 → f (at b c) ≡ g c) → map (λ t. cond (off (played (at a b) t)) w (u (f (swapped (played (at a b) t))))) (listed (at a b) r.0 r.1) ≡ map (λ c. cond (empty c) w (u (g c))) (results a r)
  same_after w u f g h =
      led_map a b e l m r i (λ q. cond (off q) w (u (f (swapped q))))
      ∙ map_same (λ c. cond (off (at c b)) w (u (f (at b c)))) (λ c. cond (empty c) w (u (g c))) (results a r)
      (λ c j. elim (cases_Bool (empty c)) [
        | inl o ↦ rw (empty-at a b e l m r i c j, o)
        | inr o ↦ (let n = next a b e l m r i c j o in rw (empty-at a b e l m r i c j, o, h c n.0 n.1))
      ])

  pub best-quick : (w : ℕ) (f : Position → ℕ) (g : List ℕ → ℕ) → ((c : List ℕ) → Ending (at b c) → length c ≡ 7 → f (at b c) ≡ g c) → best w f (at a b) r ≡ home_best w g a r
  best-quick w f g h = ap greatest (same_after w (λ v. w - v) f g h) ∙ exit w g (results a r)

  pub more-quick : (f : Position → ℕ) (g : List ℕ → ℕ) → ((c : List ℕ) → Ending (at b c) → length c ≡ 7 → f (at b c) ≡ g c) → greatest (map (more f (at a b)) (listed (at a b) r.0 r.1)) ≡ greatest (map (λ c. cond (empty c) 0 (g c)) (results a r))
  more-quick f g h = ap greatest (same_after 0 (λ v. v) f g h)

pub chance-quick : (n : ℕ) (a b : List ℕ) → Ending (at a b) → length a ≡ 7 → length b ≡ 7 → chance n (at a b) ≡ home_chance n a b
unfolding chance home_chance
chance-quick zero a b e l m = refl
chance-quick (suc n) a b e l m =
    sum_same (λ r. weight r * best (36 ^ n) (chance n) (at a b) r) (λ r. weight r * home_best (36 ^ n) (home_chance n b) a r) rolls
    (λ r i. ap (λ v. weight r * v) (best-quick a b e l m r i (36 ^ n) (chance n) (home_chance n b) (λ c f k. chance-quick n b c f m k)))

pub lasts-quick : (n : ℕ) (a b : List ℕ) → Ending (at a b) → length a ≡ 7 → length b ≡ 7 → lasts n (at a b) ≡ home_lasts n a b
unfolding lasts home_lasts
lasts-quick zero a b e l m = refl
lasts-quick (suc n) a b e l m =
    ap (λ l. suc (greatest l))
    (map_same _ _ rolls (λ r i. more-quick a b e l m r i (lasts n) (home_lasts n b) (λ c f k. lasts-quick n b c f m k)))
