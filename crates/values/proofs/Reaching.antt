-- Where the allowed turns of an ending lead.
use Rattle.std.proofs.Common.{◌≡◌, ℕ, false, List, refl}
use Rattle.std.proofs.lemmas.Bool.{eqb-false}
use Rattle.board.specs.Side.{checkers}
use Rattle.board.specs.Position.{Position, swapped}
use Rattle.turns.specs.Roll.{Roll}
use Rattle.turns.specs.Runs.{Move, played}
use Rattle.turns.specs.Turns.{Allowed}
use Rattle.listing.specs.Order.{off}
use Rattle.endings.specs.Ending.{Ending}
use Rattle.endings.proofs.Leads.{turn_leads}
use Rattle.endings.proofs.Lengths.{length-less}
use Rattle.values.specs.Laws.{Reached}

pub reached : (p : Position) (x y : ℕ) (t : List Move) → Ending p → Roll x y → Allowed p x y t → off (played p t) ≡ false → Reached p (swapped (played p t))
reached p x y t e d a o = record {
  dice = (x, y);
  roll = d;
  turn = t;
  allowed = a;
  left = o;
  is = refl;
  ending = (turn_leads p x y t e d a (eqb-false _ checkers o)).0;
  shorter = length-less p x y t e d a o;
}
