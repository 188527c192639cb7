-- Lines that ask for nothing.
use Rattle.std.specs.Prelude.{◌≡◌, ℕ, List, [], ◌∷◌, Some, Option}
use Rattle.fields.specs.Exact.{Exact}
use Rattle.commands.specs.declared.command.Command.{Command}
use Rattle.commands.specs.declared.command.Command.TheVariants as asked
use Rattle.commands.specs.Forms.{Fine, text, form_of}

-- empty, or with `#` as the first byte
abbrev pub Silent : List ℕ → Type 0
Silent [] = Unit {0}
Silent (b ∷ rest) = b ≡ 35

-- an exact reading asks for nothing exactly where the line is such a one
abbrev pub NothingExactly : Type 0
NothingExactly =
    (bytes : List ℕ) (r : Option Command)
    → Exact Fine text bytes (form_of bytes r)
    → (r ≡ Some asked.Nothing → Silent bytes) × (Silent bytes → r ≡ Some asked.Nothing)
