-- What is collected from a list of turns.
use Rattle.std.proofs.Common.{◌≡◌, ℕ, List, [], ◌∷◌, ◌++◌, Ok, Err, Vec, ap, sym, ◌∙◌, subst, append_assoc, append-nil, arith}
use Rattle.std.specs.declared.alloc.AllocError.{AllocError}
use Rattle.std.specs.declared.alloc.Global.{Global}
use Rattle.board.specs.declared.moves.Moves.{Moves}
use Rattle.board.specs.Position.{Position}
use Rattle.turns.specs.Runs.{Move}
use Rattle.listing.specs.Listing.{Listing}
use Rattle.listing.specs.Order.{listed}
use Rattle.listing.specs.Showing.{Shown}
use Rattle.listing.specs.Collecting.{stored, Noted, Holding}
use Rattle.listing.specs.Laws.{Sound}
use Rattle.listing.proofs.Listed.{listed_is}

module _ (b : Position) where
  -- once memory fell short, it stays so
  none_after : (e : AllocError) (last : Vec (Moves 4) Global) (ts : List (List Move)) → Shown Noted [] b (Err e) ts (Ok last) → ⊥
  none_after e last [] r = grind arith
  none_after e last (t ∷ ts) (Ok u, no', r) = no'
  none_after e last (t ∷ ts) (Err f, _, r) = none_after f last ts r

  -- where it sufficed to the end, the turns stand in their order
  pub all_collected : (first last : Vec (Moves 4) Global) (ts : List (List Move)) → Shown Noted [] b (Ok first) ts (Ok last) → stored last.items ≡ stored first.items ++ ts
  all_collected first last [] r = grind (arith, append-nil (stored first.items))
  all_collected first last (t ∷ ts) (Ok now, noted, r) = all_collected now last ts r ∙ ap (λ xs. xs ++ ts) noted ∙ append_assoc (stored first.items) (t ∷ []) ts
  all_collected first last (t ∷ ts) (Err e, _, r) = absurd (none_after e last ts r)

pub holding : (b : Position) (x y : ℕ) (first last : Vec (Moves 4) Global) → Sound b → first.items ≡ [] → Shown Noted [] b (Ok first) (listed b x y) (Ok last) → Holding b x y last.items
holding b x y first last o none shown =
    let same : stored last.items ≡ listed b x y = all_collected b first last (listed b x y) shown ∙ ap (λ ts. stored ts ++ listed b x y) none in
    record { listed = same; listing = subst (Listing b x y) (sym same) (listed_is b x y o) }
