-- Refusals in checking order: a call gives the first that applies.
use Rattle.std.specs.Prelude.{◌≡◌, ◌⊎◌}
use Rattle.refusals.specs.declared.refusal.Refusal.{Refusal}

-- refused with e where the fault is there, and otherwise as the rest says
abbrev pub Refuse : Type 0 → Refusal → (Refusal → Type 0) → Refusal → Type 0
Refuse Fault e rest r = (Fault × (r ≡ e)) ⊎ ((Fault → ⊥) × rest r)

-- nothing more is tested
abbrev pub Accept : Refusal → Type 0
Accept r = ⊥
