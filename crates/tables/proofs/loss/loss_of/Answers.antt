use Rattle.std.proofs.Common.{◌≡◌, ℕ, sym, subst}
use Rattle.tables.specs.Loss.{ends_of_loss, LossHeld}
use Rattle.tables.proofs.Losing.{loss-held}
use Rattle.tables.proofs.loss.loss_of.Goals as goal

pub returns : goal.returns
returns g c =
    let k = g.K.Chance in
    let value : ◌≡◌ {A = ℕ × ℕ} (c.saturating_sub.result, c.saturating_sub-2.result) (ends_of_loss k c.args.best c.args.after) =
    rw (c.saturating_sub.ensures, c.saturating_sub-2.ensures, c.ends-best_lower.ensures, c.ends-after_lower.ensures)
    in
    record { value = value; holds = subst (LossHeld k c.args.best c.args.after) (sym value) (loss-held k c.args.best c.args.after) }
