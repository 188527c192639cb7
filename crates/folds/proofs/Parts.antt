-- Adding parts one after another: what is known on the way, and what is answered at the end.
use Rattle.std.proofs.Common.{◌≡◌, ℕ, ◌+◌, ◌<◌, ◌≤◌, List, [], ◌∷◌, length, get_or, drop, Ok, Result, sym, ap, ◌∙◌, subst, add-one, arith, drop-cons}
use Rattle.std.proofs.lemmas.List.{drop_all}
use Rattle.refusals.specs.declared.refusal.Refusal.{Refusal}
use Rattle.chance.specs.Sums.{Fits, Closes}
use Rattle.chance.specs.declared.kind.Chance.{Ghosts}
use Rattle.folds.specs.Mean.{AllFit, weights, summed, Mean}
use Rattle.folds.proofs.Means.{total-weight, total_oldest, mean-holds, mean_age}

-- s is the sum so far of the parts ps, of which the rest is left
pub record WeighedSoFar {V S R : Type 0} (k : Ghosts V S R) (ps rest : List (ℕ × V)) (s : S) : Type 0 where
  pub same : summed k s rest ≡ summed k k.empty ps
  pub onward : AllFit 0 (weights ps) → AllFit (k.weight s) (weights rest)
  pub back : AllFit (k.weight s) (weights rest) → AllFit 0 (weights ps)

-- what is left from a place on
left_at : {X : Type 0} (xs : List X) (i : ℕ) (x : X) → i < length xs → x ≡ get_or xs i x → drop i xs ≡ x ∷ drop (i + 1) xs
left_at xs i x h e = drop-cons xs i x h ∙ rw (add-one, ← e)

module _ {V S R : Type 0} (k : Ghosts V S R) (ps : List (ℕ × V)) where
  next : (p : ℕ × V) (rest : List (ℕ × V)) (s s' : S) → WeighedSoFar k ps (p ∷ rest) s → Fits (k.weight s) p.0 → s' ≡ k.added s p.0 p.1 → WeighedSoFar k ps rest s'
  next p rest s s' so f e =
      let w = ap k.weight e ∙ k.rules.added_weight s p.0 p.1 f in
      record {
        same = ap (λ s. summed k s rest) e ∙ so.same;
        onward = λ a. subst (λ t. AllFit t (weights rest)) (sym w) (so.onward a).1;
        back = λ a. so.back (f, subst (λ t. AllFit t (weights rest)) w a);
      }

  pub next-at : (i : ℕ) (p : ℕ × V) (s s' : S) → i < length ps → p ≡ get_or ps i p → WeighedSoFar k ps (drop i ps) s → Fits (k.weight s) p.0 → s' ≡ k.added s p.0 p.1 → WeighedSoFar k ps (drop (i + 1) ps) s'
  next-at i p s s' h e so f z = next p (drop (i + 1) ps) s s' (subst (λ rest. WeighedSoFar k ps rest s) (left_at ps i p h e) so) f z

  closed_so : (s s' : S) (r : Result V Refusal) → WeighedSoFar k ps [] s → Closes (k.weight s) (k.oldest s) k.REACH (k.closed s) k.empty s r s' → Mean k ps r
  closed_so s s' r so c =
      let fit = so.back tt in
      let w : k.weight s ≡ _ = ap k.weight so.same ∙ total-weight k ps fit in
      let o : k.oldest s ≡ _ = ap k.oldest so.same ∙ total_oldest k ps fit in
      record {
        misfit = λ n. absurd (n fit);
        short = λ _ h. (c.short (omega (arith, w))).0;
        old = λ _ full h. (c.old (omega (arith, w)) (omega (arith, o))).0;
        done = λ r. (c.done (omega (arith, w, r.full)) (omega (arith, o, r.young))).0 ∙ ap (λ s. Ok (k.closed s)) so.same;
        holds = mean-holds k ps;
        age = mean_age k ps;
      }

  pub closed_at : (i : ℕ) (s s' : S) (r : Result V Refusal) → length ps ≤ i → WeighedSoFar k ps (drop i ps) s → Closes (k.weight s) (k.oldest s) k.REACH (k.closed s) k.empty s r s' → Mean k ps r
  closed_at i s s' r h so c = closed_so s s' r (subst (λ rest. WeighedSoFar k ps rest s) (drop_all _ _ h) so) c
