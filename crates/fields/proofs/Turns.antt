-- The text of moves, read one field after another.
use Rattle.std.proofs.Common.{◌≡◌, ℕ, ◌<◌, min, List, [], ◌∷◌, ◌++◌, length, take, drop, sym, ap, ◌∙◌, arith, Some, append_assoc}
use Rattle.std.specs.List.{AllByRecursion}
use Rattle.std.proofs.lemmas.List.{take_at, drop_at, flat_map_more}
use Rattle.std.proofs.ByRecursion.{All-push}
use Rattle.fields.specs.Moves.{FineMove, FineMoves, move_text, moves_text}
use Rattle.fields.proofs.Once.{one_move_text}

-- moves that stand in all the bytes begin with those done, and go on with others that stand in the rest
abbrev GoesOn : List (ℕ × ℕ) → List ℕ → List (ℕ × ℕ) → Type 0
GoesOn done rest ms = (more : List (ℕ × ℕ)) × AllByRecursion FineMove more × (ms ≡ done ++ more) × (moves_text more ≡ rest)

-- the moves done stand in front of the rest, and no others do
pub record Ahead (bytes : List ℕ) (done : List (ℕ × ℕ)) (rest : List ℕ) : Type 0 where
  pub fine : AllByRecursion FineMove done
  pub text : moves_text done ++ rest ≡ bytes
  pub goes_on : (ms : List (ℕ × ℕ)) → AllByRecursion FineMove ms → moves_text ms ≡ bytes → GoesOn done rest ms

module _ (bytes : List ℕ) (done : List (ℕ × ℕ)) (rest field behind : List ℕ) (so_far : Ahead bytes done rest) (cut : rest ≡ field ++ behind) (some : 0 < length rest) where
  -- where the field in front is no move, the bytes are no moves
  pub no_move : length field ≡ min 4 (length rest) → ((m : ℕ × ℕ) → FineMove m → move_text m ≡ field → ⊥) → (ms : List (ℕ × ℕ)) → FineMoves ms → moves_text ms ≡ bytes → ⊥
  no_move long none ms fine e = next (so_far.goes_on ms fine.1 e)
    where
      next : GoesOn done rest ms → ⊥
      next ([], f, s, t) = omega (arith, ap length t)
      next (m ∷ more, f, s, t) =
          let four : length field ≡ 4 = omega (arith, ap length t) in
          none m f.0 (ap (λ (x : List ℕ). take 4 x) (t ∙ cut) ∙ take_at field behind 4 four)

  -- one move more
  pub one_more : (m : ℕ × ℕ) → FineMove m → move_text m ≡ field → Ahead bytes (done ++ m ∷ []) behind
  one_more m fine is =
      record {
        fine = All-push FineMove done m so_far.fine fine;
        text =
            let a = flat_map_more move_text [] done m in
            let b = append_assoc (moves_text done) (move_text m) behind in
            let c = so_far.text in
            cc;
        goes_on = λ ms f e. next ms (so_far.goes_on ms f e);
      }
    where
      four : length field ≡ 4
      four = sym (ap length is)

      next : (ms : List (ℕ × ℕ)) → GoesOn done rest ms → GoesOn (done ++ m ∷ []) behind ms
      next ms ([], f, s, t) = absurd (omega (arith, ap length t))
      next ms (n ∷ more, f, s, t) =
          let here : move_text n ≡ field = ap (λ (x : List ℕ). take 4 x) (t ∙ cut) ∙ take_at field behind 4 four in
          let same = one_move_text field (Some n) (Some m) (f.0, here) (fine, is) in
          let a = append_assoc done (m ∷ []) more in
          (more, f.1, cc, ap (λ (x : List ℕ). drop 4 x) (t ∙ cut) ∙ drop_at field behind 4 four)
