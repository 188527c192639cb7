-- What it means to read a field exactly.
use Rattle.std.specs.Prelude.{◌≡◌, ℕ, List, Some, None, Option, ◌≢◌}

-- a field that asks nothing of its value
abbrev pub Any : {A : Type 0} → A → Type 0
Any a = Unit {0}

-- some value: it is fine and the bytes are its text; none: the bytes are the text of no fine value
abbrev pub Exact : {A : Type 0} → (A → Type 0) → (A → List ℕ) → List ℕ → Option A → Type 0
Exact Fine text bytes (Some a) = Fine a × (text a ≡ bytes)
Exact {A = A} Fine text bytes None = (a : A) → Fine a → text a ≢ bytes

-- two exact readings of the same bytes are equal
abbrev pub OneReading : {A : Type 0} → (A → Type 0) → (A → List ℕ) → Type 0
OneReading {A = A} Fine text = (bytes : List ℕ) (x y : Option A) → Exact Fine text bytes x → Exact Fine text bytes y → x ≡ y
