use Rattle.std.proofs.Common.{ℕ, List, drop, sym, ap, ◌∙◌}
use Rattle.std.proofs.lemmas.List.{take_rest}
use Rattle.fields.proofs.sides.setting.Goals as goal

pub returns-in_err-both : goal.returns-in_err-both
returns-in_err-both c = rw c.from_residual-in_err-both.ensures (λ x fine is.
    c.in_err-both.ensures (x.1, x.2) fine (ap (λ (bs : List ℕ). drop 3 bs) is ∙ sym (take_rest c.args.bytes.now 3)))
