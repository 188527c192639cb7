-- The counts of a side as hex digits.
use Rattle.std.proofs.Common.{◌≡◌, ℕ, ◌+◌, ◌<◌, List, [], ◌∷◌, length, get_or, take, set, sym, ap, ◌∙◌, arith}
use Rattle.std.specs.List.{AllByRecursion}
use Rattle.std.proofs.lemmas.List.{take_more_set, take_more, map_push, length-map, get_or-map}
use Rattle.std.proofs.ByRecursion.{All-get_or, All-push}
use Rattle.fields.specs.Sides.{hex, FineCount, count_text, FineSide, side_text}

-- where one byte is no count, the bytes are no side
pub no_count : (bytes : List ℕ) (i : ℕ) → i < 25 → ((d : ℕ) → FineCount d → count_text d ≡ get_or bytes i 0 ∷ [] → ⊥) → (s : List ℕ) → FineSide s → side_text s ≡ bytes → ⊥
no_count bytes i h none s fine e =
    let small : i < length s = omega (arith, fine.0) in
    let there = get_or-map hex s i 0 0 small in
    let same : get_or (side_text s) i 0 ≡ get_or bytes i 0 = ap (λ (x : List ℕ). get_or x i 0) e in
    none (get_or s i 0) (All-get_or FineCount s i 0 small fine.1) (cc)

-- a side has 25 bytes
pub wrong_size : (bytes : List ℕ) → (length bytes ≡ 25 → ⊥) → (s : List ℕ) → FineSide s → side_text s ≡ bytes → ⊥
wrong_size bytes none s fine e = none (sym (ap length e) ∙ length-map s hex ∙ fine.0)

-- one count more
pub counts-more : (bytes counts : List ℕ) (i n : ℕ) → i < length counts → i < length bytes
    → AllByRecursion FineCount (take i counts) → side_text (take i counts) ≡ take i bytes → FineCount n → count_text n ≡ get_or bytes i 0 ∷ []
    → AllByRecursion FineCount (take (i + 1) (set counts i n)) × (side_text (take (i + 1) (set counts i n)) ≡ take (i + 1) bytes)
counts-more bytes counts i n h k fine is small here =
    rw (take_more_set counts i n h, take_more bytes i 0 k)
    (All-push FineCount (take i counts) n fine small, (map_push hex (take i counts) n ∙ cc))
