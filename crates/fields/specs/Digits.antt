-- Numbers in decimal digits.
use Rattle.std.specs.Prelude.{ℕ, zero, suc, ◌+◌, ◌/◌, ◌%◌, ◌<◌, List, [], ◌∷◌, ◌++◌}

-- a digit is below ten
abbrev pub FineDigit : ℕ → Type 0
FineDigit d = d < 10

-- the bytes from `0` on
abbrev pub digit_text : ℕ → List ℕ
digit_text d = (48 + d) ∷ []

-- a number in so many digits, with zeros in front
abbrev pub padded : ℕ → ℕ → List ℕ
padded zero n = []
padded (suc k) n = padded k (n / 10) ++ ((48 + n % 10) ∷ [])

-- each of two dice is a digit
abbrev pub FineDice : ℕ × ℕ → Type 0
FineDice x = FineDigit x.0 × FineDigit x.1

-- a space and the two digits
abbrev pub dice_text : ℕ × ℕ → List ℕ
dice_text x = 32 ∷ (48 + x.0) ∷ (48 + x.1) ∷ []
