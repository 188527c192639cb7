-- Each entry is the closed sum over the entries, and holds the exact chance.
use Rattle.std.proofs.Common.{◌≡◌, ℕ, zero, suc, ◌-◌, ◌*◌, ◌<◌, ◌≤◌, true, false, leb, List, [], ◌∷◌, fold, sym, refl, ap, ◌∙◌, subst, inl, inr, arith}
use Rattle.std.proofs.lemmas.Bool.{cases_Bool, cond-true, cond-false, le-leb, lt-leb}
use Rattle.board.specs.Position.{Position, swapped}
use Rattle.turns.specs.Roll.{Roll}
use Rattle.turns.specs.Runs.{Move, played}
use Rattle.turns.specs.Turns.{Allowed}
use Rattle.listing.specs.Order.{off, listed}
use Rattle.listing.specs.Listing.{In}
use Rattle.listing.proofs.Listed.{listed_is}
use Rattle.chance.specs.declared.kind.Chance.{Ghosts}
use Rattle.endings.specs.Ending.{Ending}
use Rattle.endings.specs.Length.{length_of}
use Rattle.endings.specs.Rolls.{TwoDice, rolls, weight}
use Rattle.endings.proofs.Lists.{map_same}
use Rattle.endings.proofs.Rolls.{rolls-fine}
use Rattle.endings.proofs.Lengths.{sound, length_some}
use Rattle.values.specs.Best.{after_value, best_from_first, best_value, sum_value}
use Rattle.values.specs.Entry.{unless_empty, closed_value, value_within, value_entry}
use Rattle.values.specs.Laws.{Reached, Entered, Others}
use Rattle.values.proofs.Reaching.{reached}
use Rattle.values.proofs.Exact.{own_left, other_left}
use Rattle.values.proofs.Judging.{summed}

module _ {V S R : Type 0} (k : Ghosts V S R) where
  -- two that have the same values at each ending to which p leads
  abbrev Alike : (Position → V) → (Position → V) → Position → Type 0
  Alike f g p = (q : Position) → Reached p q → f q ≡ g q

  pub after_alike : (f g : Position → V) (p : Position) (x y : ℕ) (t : List Move) → Ending p → Roll x y → Allowed p x y t → Alike f g p → after_value k f p t ≡ after_value k g p t
  after_alike f g p x y t e d a h =
      elim (cases_Bool (off (played p t))) [ inl o ↦ rw o | inr o ↦ rw (o, h (swapped (played p t)) (reached p x y t e d a o)) ]

  pub best_alike : (f g : Position → V) (p : Position) (x y : ℕ) → Ending p → Roll x y → Alike f g p → best_value k f p (x, y) ≡ best_value k g p (x, y)
  best_alike f g p x y e d h =
      ap (best_from_first k) (map_same (after_value k f p) (after_value k g p) (listed p x y) (λ t j. after_alike f g p x y t e d ((listed_is p x y (sound p e)).only t j) h))

  added_alike : (f g : TwoDice → V) (s : S) (rs : List TwoDice) → ((r : TwoDice) → In r rs → f r ≡ g r) → fold (λ s r. k.added s (weight r) (f r)) s rs ≡ fold (λ s r. k.added s (weight r) (g r)) s rs
  added_alike f g s [] h = refl
  added_alike f g s (r ∷ rs) h = rw (h r (inl refl)) (added_alike f g (k.added s (weight r) (g r)) rs (λ q i. h q (inr i)))

  pub sum_alike : (f g : Position → V) (p : Position) → Ending p → Alike f g p → sum_value k f p ≡ sum_value k g p
  unfolding sum_value
  sum_alike f g p e h = added_alike (best_value k f p) (best_value k g p) k.empty rolls (λ r i. best_alike f g p r.0 r.1 e (rolls-fine r i) h)

  closed_alike : (f g : Position → V) (p : Position) → Ending p → Alike f g p → closed_value k f p ≡ closed_value k g p
  closed_alike f g p e h = rw (sum_alike f g p e h)

  within_same : (m n : ℕ) (p : Position) → Ending p → length_of p ≤ m → length_of p ≤ n → value_within k m p ≡ value_within k n p
  unfolding value_within
  within_same zero n p e i j = absurd (omega (arith, length_some p e))
  within_same (suc m) zero p e i j = absurd (omega (arith, length_some p e))
  within_same (suc m) (suc n) p e i j =
      ap (unless_empty k p) (closed_alike (value_within k m) (value_within k n) p e (λ q r. within_same m n q r.ending (omega (arith, r.shorter)) (omega (arith, r.shorter))))

  pub within : (n : ℕ) (p : Position) → Ending p → length_of p ≤ n → value_within k n p ≡ value_entry k p
  unfolding value_entry
  within n p e l = within_same n (length_of p) p e l (omega arith)

  -- which value an entry is
  value_won : (n : ℕ) (p : Position) → off p ≡ true → value_within k n p ≡ k.won
  unfolding value_within
  value_won zero p o = cond-true (off p) _ _ o
  value_won (suc n) p o = cond-true (off p) _ _ o

  value_lost : (n : ℕ) (p : Position) → off p ≡ false → off (swapped p) ≡ true → value_within k n p ≡ k.lost
  unfolding value_within
  value_lost zero p o h = cond-false (off p) _ _ o ∙ cond-true (off (swapped p)) _ _ h
  value_lost (suc n) p o h = cond-false (off p) _ _ o ∙ cond-true (off (swapped p)) _ _ h

  pub won : (p : Position) → off p ≡ true → value_entry k p ≡ k.won
  unfolding value_entry
  won p o = value_won (length_of p) p o

  pub lost : (p : Position) → off p ≡ false → off (swapped p) ≡ true → value_entry k p ≡ k.lost
  unfolding value_entry
  lost p o h = value_lost (length_of p) p o h

  entry_is : (p : Position) → Ending p → value_entry k p ≡ closed_value k (value_entry k) p
  unfolding value_within
  entry_is p e =
      sym (within (suc (length_of p)) p e (omega arith))
      ∙ cond-false (off p) _ _ (own_left p e)
      ∙ cond-false (off (swapped p)) _ _ (other_left p e)
      ∙ closed_alike (value_within k (length_of p)) (value_entry k) p e (λ q r. within (length_of p) q r.ending (omega (arith, r.shorter)))

  pub step : (p : Position) → Ending p → length_of p ≤ k.REACH → value_entry k p ≡ k.closed (sum_value k (value_entry k) p)
  step p e o = entry_is p e ∙ cond-true (leb (length_of p) k.REACH) _ _ (le-leb (length_of p) k.REACH o)

  pub past : (p : Position) → Ending p → k.REACH < length_of p → value_entry k p ≡ k.lost
  past p e o = entry_is p e ∙ cond-false (leb (length_of p) k.REACH) _ _ (lt-leb (length_of p) k.REACH o)

  -- the entries hold the exact chances, by the length
  entered_to : (n : ℕ) (p : Position) → Ending p → length_of p ≤ n → length_of p ≤ k.REACH → Entered k p (value_entry k p)
  entered_to zero p e l o = absurd (omega (arith, length_some p e))
  entered_to (suc n) p e l o =
      let s = summed k (value_entry k) p e (λ q r. entered_to n q r.ending (omega (arith, r.shorter)) (omega (arith, r.shorter))) o in
      subst (Entered k p) (sym (step p e o)) s.entered

  pub entered : (p : Position) → Ending p → length_of p ≤ k.REACH → Entered k p (value_entry k p)
  entered p e o = entered_to (length_of p) p e (omega arith) o

  pub others : (p : Position) → length_of p ≤ k.REACH → Others k (value_entry k) p
  others p o q r = entered q r.ending (omega (arith, r.shorter))

  pub narrow : (p : Position) → Ending p → length_of p ≤ k.REACH → k.upper (value_entry k p) - k.lower (value_entry k p) ≤ k.GRAIN * length_of p
  narrow p e o = subst (λ a. k.upper (value_entry k p) - k.lower (value_entry k p) ≤ k.GRAIN * a) (entered p e o).age (k.rules.narrow (value_entry k p))
