-- Bytes are the text of at most one line: a reading back that checks nothing undoes the text.
use Rattle.std.proofs.Common.{◌≡◌, ℕ, cond, eqb, List, [], ◌∷◌, drop, sym, refl, ap, ◌∙◌}
use Rattle.board.specs.declared.player.Player.{Player}
use Rattle.fields.specs.Exact.{OneReading}
use Rattle.fields.specs.Sides.{FineSetting, setting_text}
use Rattle.fields.proofs.Once.{undone, digit_at, digit_back, back-moves, moves-back, back_setting, setting_back}
use Rattle.commands.specs.Plays.{FinePlay, play_text}
use Rattle.commands.specs.Forms.{Form, setting, listing, play, comment, blank, Fine, text}

-- the form that a letter and its fields stand for
by_letter : ℕ → List ℕ → Form
by_letter b fields =
    let x = back_setting fields in
    cond (eqb b 83) (setting x.0 x.1 x.2)
    (cond (eqb b 76) (listing (digit_at fields 1, digit_at fields 2))
    (cond (eqb b 80) (play (digit_at fields 1, digit_at fields 2) (back-moves (drop 3 fields)))
    (comment fields)))

back : List ℕ → Form
back [] = blank
back (b ∷ fields) = by_letter b fields

set_as : Player × List ℕ × List ℕ → Form
set_as x = setting x.0 x.1 x.2

text-back : (f : Form) → Fine f → back (text f) ≡ f
unfolding back by_letter digit_at set_as
text-back (setting p w b) fine = ap set_as (setting_back (p, w, b) fine)
text-back (listing roll) fine = rw (digit_back roll.0, digit_back roll.1) refl
text-back (play roll ms) fine = rw (digit_back roll.0, digit_back roll.1, moves-back ms fine.1.1) refl
text-back (comment rest) fine = refl
text-back blank fine = refl

pub apart : OneReading Fine text
apart = undone Fine text back text-back

-- where the fields behind a letter are refused, the line is no form's text
module _ (bytes fields : List ℕ) where
  pub no_setting : bytes ≡ 83 ∷ fields → ((x : Player × List ℕ × List ℕ) → FineSetting x → setting_text x ≡ fields → ⊥) → (f : Form) → Fine f → text f ≡ bytes → ⊥
  unfolding back by_letter
  no_setting front none f fine e =
      let x = back_setting fields in
      let is : f ≡ setting x.0 x.1 x.2 = sym (text-back f fine) ∙ ap back (e ∙ front) in
      let e' = rw is at e in
      none (x.0, x.1, x.2) (rw is at fine) (cc)

  pub no_play : bytes ≡ 80 ∷ fields → ((x : (ℕ × ℕ) × List (ℕ × ℕ)) → FinePlay x → play_text x ≡ fields → ⊥) → (f : Form) → Fine f → text f ≡ bytes → ⊥
  unfolding back by_letter
  no_play front none f fine e =
      let x : (ℕ × ℕ) × List (ℕ × ℕ) = ((digit_at fields 1, digit_at fields 2), back-moves (drop 3 fields)) in
      let is : f ≡ play x.0 x.1 = sym (text-back f fine) ∙ ap back (e ∙ front) in
      let e' = rw is at e in
      none x (rw is at fine) (cc)
