-- What stands where in the text of two sides.
use Rattle.std.proofs.Common.{◌≡◌, ℕ, List, ◌∷◌, length, take, drop, sym, ap, ◌∙◌}
use Rattle.std.proofs.lemmas.List.{length-map, drop_at, take_at, take-append-drop}
use Rattle.fields.specs.Sides.{hex, side_text, FineSides, sides_text}

-- White's side, and a space with Black's
pub record Parts (x : List ℕ × List ℕ) (front back : List ℕ) : Type 0 where
  pub white : side_text x.0 ≡ front
  pub rest : 32 ∷ side_text x.1 ≡ back

pub parts : (x : List ℕ × List ℕ) (bytes front back : List ℕ) → FineSides x → front ≡ take 25 bytes → back ≡ drop 25 bytes → sides_text x ≡ bytes → Parts x front back
parts x bytes front back fine first then e =
    let long : length (side_text x.0) ≡ 25 = length-map x.0 hex ∙ fine.0.0 in
    record {
      white = sym (take_at (side_text x.0) (32 ∷ side_text x.1) 25 long) ∙ ap (λ (y : List ℕ). take 25 y) e ∙ sym first;
      rest = sym (drop_at (side_text x.0) (32 ∷ side_text x.1) 25 long) ∙ ap (λ (y : List ℕ). drop 25 y) e ∙ sym then;
    }

pub whole : (x : List ℕ × List ℕ) (bytes front back : List ℕ) → front ≡ take 25 bytes → back ≡ drop 25 bytes → Parts x front back → sides_text x ≡ bytes
whole x bytes front back first then p =
    let cut = take-append-drop 25 bytes in
    let w = p.white in
    let r = p.rest in
    cc
