-- What each command is answered.
use Rattle.std.specs.Prelude.{◌≡◌, ℕ, List, Ok, Err, vec_items}
use Rattle.refusals.specs.declared.reason.Reason.TheVariants.{DieOutOfRange, BoardRuleBroken}
use Rattle.refusals.specs.Fields.{plain}
use Rattle.board.specs.declared.player.Player.{Player}
use Rattle.board.specs.Moves.{moves_of}
use Rattle.board.specs.Position.{position}
use Rattle.board.specs.Setup.{Rule}
use Rattle.turns.specs.Roll.{Roll}
use Rattle.turns.specs.Runs.{Move}
use Rattle.listing.specs.Collecting.{Holding}
use Rattle.commands.specs.declared.command.Command.{Command}
use Rattle.commands.specs.declared.command.Command.TheVariants as asked
use Rattle.settings.specs.declared.setting.Setting.{Setting}
use Rattle.settings.specs.Settings.{Shows, arranged}
use Rattle.settings.specs.Played.{PlayedOn}
use Rattle.replies.specs.declared.reply.Reply.{Reply}
use Rattle.replies.specs.declared.reply.Reply.TheVariants.{Placed, Listed, Made, Refused, Nothing}

-- a board is set exactly where the counts keep its rule
abbrev pub SettingReply : Player → List ℕ → List ℕ → Reply → Type 0
SettingReply p white black (Placed s) = Rule white black × Shows s (arranged p white black)
SettingReply p white black (Listed roll ts) = ⊥
SettingReply p white black (Made roll moves s) = ⊥
SettingReply p white black (Refused e) = (Rule white black → ⊥) × (e ≡ plain BoardRuleBroken)
SettingReply p white black Nothing = ⊥

-- a roll is listed exactly where its dice are dice
abbrev pub ListingReply : Setting → ℕ → ℕ → Reply → Type 0
ListingReply s x y (Placed s') = ⊥
ListingReply s x y (Listed roll ts) = (roll ≡ (x, y)) × Roll x y × Holding (position s.board) x y (vec_items ts)
ListingReply s x y (Made roll moves s') = ⊥
ListingReply s x y (Refused e) = (Roll x y → ⊥) × (e ≡ plain DieOutOfRange)
ListingReply s x y Nothing = ⊥

-- a turn is made exactly where it is allowed, and otherwise has the first refusal that applies
abbrev pub PlayReply : Setting → ℕ → ℕ → List Move → Reply → Type 0
PlayReply s x y turn (Placed s') = ⊥
PlayReply s x y turn (Listed roll ts) = ⊥
PlayReply s x y turn (Made roll moves after) = (roll ≡ (x, y)) × (moves_of moves ≡ turn) × PlayedOn s x y turn (Ok after)
PlayReply s x y turn (Refused e) = PlayedOn s x y turn (Err e)
PlayReply s x y turn Nothing = ⊥

abbrev pub Replied : Setting → Command → Reply → Type 0
Replied s (asked.Set p sides) r = SettingReply p sides.white sides.black r
Replied s (asked.List roll) r = ListingReply s roll.0 roll.1 r
Replied s (asked.Play roll moves) r = PlayReply s roll.0 roll.1 (moves_of moves) r
Replied s asked.Nothing r = r ≡ Nothing

-- memory is needed for a listing alone
abbrev pub NeedsMemory : Command → Type 0
NeedsMemory (asked.Set p sides) = ⊥
NeedsMemory (asked.List roll) = Roll roll.0 roll.1
NeedsMemory (asked.Play roll moves) = ⊥
NeedsMemory asked.Nothing = ⊥
