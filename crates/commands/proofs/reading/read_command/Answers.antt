use Rattle.std.proofs.Common.{◌≡◌, ◌∷◌, rules}
use Rattle.commands.proofs.Apart.{no_setting, no_play}
use Rattle.commands.proofs.reading.read_command.Goals as goal

pub returns-in_err-player-in-83 : goal.returns-in_err-player-in-83
returns-in_err-player-in-83 c =
    let front : c.args.bytes.now ≡ 83 ∷ c.in-Some.fields.now = search rules in
    rw c.from_residual.ensures (no_setting _ _ front c.in_err-player-in-83.ensures)

pub returns-in_err-roll-in-80 : goal.returns-in_err-roll-in-80
returns-in_err-roll-in-80 c =
    let front : c.args.bytes.now ≡ 80 ∷ c.in-Some.fields.now = search rules in
    rw c.from_residual-in_err-roll-in-80.ensures (no_play _ _ front c.in_err-roll-in-80.ensures)
