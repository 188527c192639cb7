-- What a session holds: the setting, and whether a line was no command's text.
use Rattle.std.specs.Prelude.{◌≡◌, ◌⊎◌, ℕ, true, false, List, Some, None, Option}
use Rattle.fields.specs.Exact.{Exact}
use Rattle.commands.specs.declared.command.Command.{Command}
use Rattle.commands.specs.Forms.{Fine, text, form_of}
use Rattle.settings.specs.declared.setting.Setting.{Setting}
use Rattle.settings.specs.Settings.{Shows, opening}
use Rattle.replies.specs.declared.reply.Reply.{Reply}
use Rattle.replies.specs.declared.reply.Reply.TheVariants.{Placed, Listed, Made, Refused, Nothing}
use Rattle.replies.specs.Replies.{Replied, NeedsMemory}
use Rattle.turnlist.specs.declared.session.Session.{Session}

-- before any line: the start board with White due, and no fault
abbrev pub Fresh : Session → Type 0
Fresh s = Shows s.setting opening × (s.faulty ≡ false)

-- the setting that a reply leaves: the board that was set, the one after a turn that was made, and otherwise what it was
abbrev pub left_by : Setting → Reply → Setting
left_by before (Placed after) = after
left_by before (Listed roll turns) = before
left_by before (Made roll moves after) = after
left_by before (Refused why) = before
left_by before Nothing = before

-- some reply is the one that the rules define, and the setting is as it leaves it
abbrev pub Follows : Setting → Command → Setting → Type 0
Follows before command after = (reply : Reply) × Replied before command reply × (after ≡ left_by before reply)

-- what is no command's text leaves the setting and is noted; a command is followed, and notes no fault
abbrev pub Heard : Option Command → Session → Session → Type 0
Heard None before after = (after.setting ≡ before.setting) × (after.faulty ≡ true)
Heard (Some command) before after = Follows before.setting command after.setting × (after.faulty ≡ before.faulty)

-- after a line: it is read exactly, and heard so
abbrev pub AfterLine : List ℕ → Session → Session → Type 0
AfterLine line before after = (read : Option Command) × Exact Fine text line (form_of line read) × Heard read before after

-- the line is a command that needs memory, and setting and flag are as they were
abbrev pub Unheard : List ℕ → Session → Session → Type 0
Unheard line before after =
    (command : Command) × Exact Fine text line (form_of line (Some command)) × NeedsMemory command
    × (after.setting ≡ before.setting) × (after.faulty ≡ before.faulty)

-- where memory falls short: so, or as after the line
abbrev pub CutShort : List ℕ → Session → Session → Type 0
CutShort line before after = Unheard line before after ⊎ AfterLine line before after
