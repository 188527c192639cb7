-- A turn played on a setting.
use Rattle.std.specs.Prelude.{ℕ, List, Ok, Err, Result}
use Rattle.refusals.specs.declared.refusal.Refusal.{Refusal}
use Rattle.board.specs.Players.{opponent}
use Rattle.board.specs.Position.{position, swapped}
use Rattle.turns.specs.Roll.{Roll}
use Rattle.turns.specs.Runs.{Move, played}
use Rattle.turns.specs.Turns.{Allowed}
use Rattle.turns.specs.Refused.{Refused}
use Rattle.settings.specs.declared.setting.Setting.{Setting}
use Rattle.settings.specs.Settings.{Shows}

-- after an allowed turn the other player is due on the board that it leads to; otherwise the first refusal that applies
abbrev pub PlayedOn : Setting → ℕ → ℕ → List Move → Result Setting Refusal → Type 0
PlayedOn s x y turn (Ok after) =
    Roll x y × Allowed (position s.board) x y turn × Shows after (opponent s.due, swapped (played (position s.board) turn))
PlayedOn s x y turn (Err e) = Refused (position s.board) x y turn e
