use Rattle.std.proofs.Common.{◌≡◌, ◌∷◌, rules}
use Rattle.fields.proofs.Settings.{parts, whole}
use Rattle.fields.proofs.sides.both.Goals as goal

pub returns-then-space-ne32 : goal.returns-then-space-ne32
returns-then-space-ne32 c = λ x fine e.
    let cut = c.in_ok-white.ensures.cases in
    let r = (parts x _ c.in_ok-white.white.now _ fine cut.1 cut.2 e).rest in
    let first : c.in_ok-white.rest.now ≡ c.in_ok-space.space.now ∷ c.in_ok-space.black.now = search rules in
    c.if-space-ne32.true (cc)

pub returns-in_err-side : goal.returns-in_err-side
returns-in_err-side c = rw c.from_residual-in_err-side.ensures (λ x fine e.
    let cut = c.in_ok-white.ensures.cases in
    let r = (parts x _ c.in_ok-white.white.now _ fine cut.1 cut.2 e).rest in
    let first : c.in_ok-white.rest.now ≡ c.in_ok-space.space.now ∷ c.in_ok-space.black.now = search rules in
    c.in_err-side.ensures x.1 fine.1 (cc))

pub returns-in_err-side-2 : goal.returns-in_err-side-2
returns-in_err-side-2 c = rw c.from_residual-in_err-side-2.ensures (λ x fine e.
    let cut = c.in_ok-white.ensures.cases in
    c.in_err-side-2.ensures x.0 fine.0 (parts x _ _ c.in_ok-white.rest.now fine cut.1 cut.2 e).white)

pub returns : goal.returns
returns c =
    let cut = c.in_ok-white.ensures.cases in
    let black = c.in_ok-side.ensures in
    let white = c.in_ok-side-2.ensures in
    let b = black.1 in
    let first : c.in_ok-white.rest.now ≡ c.in_ok-space.space.now ∷ c.in_ok-space.black.now = search rules in
    ((white.0, black.0), whole (c.in_ok-side-2.field-0, c.in_ok-side.field-0) _ _ c.in_ok-white.rest.now cut.1 cut.2 (record { white = white.1; rest = cc }))
