-- What a refusal bears.
use Rattle.std.specs.Prelude.{ℕ}
use Rattle.refusals.specs.declared.reason.Reason.{Reason}
use Rattle.refusals.specs.declared.refusal.Refusal.{Refusal}
use Rattle.refusals.specs.Numbers.{number_of, layer_of, layer_number}

-- a call that works on no match has game and turn 0, and a refusal that blames no move has move 0
abbrev pub refusal_at_move : Reason → ℕ → Refusal
refusal_at_move why n = record { reason = why; game = 0; turn = 0; nth = n; place = 0 }

abbrev pub plain : Reason → Refusal
plain why = refusal_at_move why 0

-- layer, number, game, turn, move and place
abbrev pub fields_of : Refusal → ℕ × ℕ × ℕ × ℕ × ℕ × ℕ
fields_of r = (layer_number (layer_of r.reason), number_of r.reason, r.game, r.turn, r.nth, r.place)
