-- Bytes are the text of at most one value: a reading back that checks nothing undoes the text.
use Rattle.std.proofs.Common.{◌≡◌, ℕ, ◌+◌, ◌-◌, ◌*◌, ◌/◌, ◌%◌, cond, eqb, ltb, List, [], ◌∷◌, map, get_or, take, drop, Some, None, sym, refl, ap, ◌∙◌, arith}
use Rattle.std.specs.List.{AllByRecursion}
use Rattle.std.proofs.lemmas.Bool.Decides.{nat_tests}
use Rattle.board.specs.declared.player.Player.{Player}
use Rattle.board.specs.declared.player.Player.TheVariants.{White, Black}
use Rattle.fields.specs.Exact.{OneReading}
use Rattle.board.specs.Players.{letter}
use Rattle.fields.specs.Moves.{FineMove, move_text, FineMoves, moves_text}
use Rattle.fields.specs.Sides.{hex, FineCount, FineSide, side_text, FineSides, sides_text, FineSetting, setting_text}
use Rattle.fields.proofs.Settings.{parts}

-- a text that can be undone has one reading
pub undone : {A : Type 0} (Fine : A → Type 0) (text : A → List ℕ) (back : List ℕ → A) → ((a : A) → Fine a → back (text a) ≡ a) → OneReading Fine text
undone Fine text back is bytes None None x y = refl
undone Fine text back is bytes None (Some b) none (fb, eb) = absurd (none b fb eb)
undone Fine text back is bytes (Some a) None (fa, ea) none = absurd (none a fa ea)
undone Fine text back is bytes (Some a) (Some b) (fa, ea) (fb, eb) = ap Some (sym (is a fa) ∙ ap back (ea ∙ sym eb) ∙ is b fb)

-- the digit at a place
unfoldable pub digit_at : List ℕ → ℕ → ℕ
digit_at bs i = get_or bs i 0 - 48

pub digit_back : (d : ℕ) → 48 + d - 48 ≡ d
digit_back d = omega arith

pub who : ℕ → Player
who b = cond (eqb b 87) White Black

pub who-back : (p : Player) → who (letter p) ≡ p
unfolding who
who-back White = refl
who-back Black = refl

pub back-moves : List ℕ → List (ℕ × ℕ)
back-moves [] = []
back-moves (a ∷ []) = []
back-moves (a ∷ b ∷ []) = []
back-moves (a ∷ b ∷ c ∷ []) = []
back-moves (a ∷ b ∷ c ∷ d ∷ rest) = (10 * (b - 48) + (c - 48), d - 48) ∷ back-moves rest

pub moves-back : (ms : List (ℕ × ℕ)) → AllByRecursion FineMove ms → back-moves (moves_text ms) ≡ ms
unfolding back-moves
moves-back [] fine = refl
moves-back ((s, d) ∷ ms) ((small, die), fine) =
    let a : 10 * (48 + s / 10 % 10 - 48) + (48 + s % 10 - 48) ≡ s = omega arith in
    let b : 48 + d % 10 - 48 ≡ d = omega arith in
    rw (a, b, moves-back ms fine) refl

unhex : ℕ → ℕ
unhex b = cond (ltb b 58) (b - 48) (b - 87)

count_back : (d : ℕ) → FineCount d → unhex (hex d) ≡ d
unfolding unhex
count_back d h = grind (arith, nat_tests)

pub back_side : List ℕ → List ℕ
back_side bs = map unhex bs

pub side_back : (ds : List ℕ) → AllByRecursion FineCount ds → back_side (side_text ds) ≡ ds
unfolding back_side
side_back [] fine = refl
side_back (d ∷ ds) (small, fine) = rw (count_back d small, side_back ds fine) refl

back-sides : List ℕ → List ℕ × List ℕ
back-sides bs = (back_side (take 25 bs), back_side (drop 1 (drop 25 bs)))

sides-back : (x : List ℕ × List ℕ) → FineSides x → back-sides (sides_text x) ≡ x
unfolding back-sides
sides-back (w, b) fine =
    let at = parts (w, b) (sides_text (w, b)) _ _ fine refl refl refl in
    rw (sym at.white, sym at.rest, side_back w fine.0.1, side_back b fine.1.1) refl

pub back_setting : List ℕ → Player × List ℕ × List ℕ
back_setting bs = (who (get_or bs 1 0), (back-sides (drop 3 bs)).0, (back-sides (drop 3 bs)).1)

pub setting_back : (x : Player × List ℕ × List ℕ) → FineSetting x → back_setting (setting_text x) ≡ x
unfolding back_setting
setting_back (p, w, b) fine = rw (who-back p, sides-back (w, b) fine) refl

pub one_move_text : OneReading FineMove move_text
one_move_text = undone FineMove move_text (λ bs. get_or (back-moves bs) 0 (0, 0)) (λ m fine. ap (λ (ms : List (ℕ × ℕ)). get_or ms 0 (0, 0)) (moves-back (m ∷ []) (fine, tt)))

pub one-moves : OneReading FineMoves moves_text
one-moves = undone FineMoves moves_text back-moves (λ ms fine. moves-back ms fine.1)

pub one_side : OneReading FineSide side_text
one_side = undone FineSide side_text back_side (λ s fine. side_back s fine.1)

pub one_setting : OneReading FineSetting setting_text
one_setting = undone FineSetting setting_text back_setting setting_back
