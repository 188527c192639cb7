-- An exact reading asks for nothing exactly where the line is empty or a comment.
use Rattle.std.proofs.Common.{◌≡◌, ℕ, List, [], ◌∷◌, get_or, Some, None, sym, refl, ap, ◌∙◌, arith}
use Rattle.commands.specs.declared.command.Command.TheVariants as asked
use Rattle.commands.specs.Forms.{Form, comment, blank, silent, Fine, text}
use Rattle.commands.specs.Silence.{Silent, NothingExactly}

-- a line that begins with another letter is not silent
loud : (b : ℕ) (fields bytes : List ℕ) → (b ≡ 35 → ⊥) → b ∷ fields ≡ bytes → Silent bytes → ⊥
loud b fields [] other e h = cc
loud b fields (x ∷ xs) other e h = other (ap (λ (l : List ℕ). get_or l 0 0) e ∙ h)

refused : (bytes : List ℕ) → ((f : Form) → Fine f → text f ≡ bytes → ⊥) → Silent bytes → ⊥
refused [] none h = none blank tt refl
refused (b ∷ rest) none h = none (comment rest) tt (ap (λ (x : ℕ). x ∷ rest) (sym h))

quiet : (bytes : List ℕ) → text (silent bytes) ≡ bytes → Silent bytes
quiet [] e = tt
quiet (b ∷ rest) e = sym (ap (λ (l : List ℕ). get_or l 0 0) e)

pub nothing : NothingExactly
nothing bytes None none = (λ e. absurd (cc), λ h. absurd (refused bytes none h))
nothing bytes (Some (asked.Set p s)) (fine, e) = (λ n. absurd (cc), λ h. absurd (loud 83 _ bytes (λ z. omega arith) e h))
nothing bytes (Some (asked.List roll)) (fine, e) = (λ n. absurd (cc), λ h. absurd (loud 76 _ bytes (λ z. omega arith) e h))
nothing bytes (Some (asked.Play roll ms)) (fine, e) = (λ n. absurd (cc), λ h. absurd (loud 80 _ bytes (λ z. omega arith) e h))
nothing bytes (Some asked.Nothing) (fine, e) = (λ n. quiet bytes e, λ h. refl)
