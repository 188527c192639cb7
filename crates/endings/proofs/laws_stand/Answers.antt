use Rattle.endings.specs.Laws.{Laws}
use Rattle.endings.specs.PlaceLaws.{PlaceLaws}
use Rattle.endings.proofs.Rolls.{weights, every_roll}
use Rattle.endings.proofs.EitherWay.{listed_turned}
use Rattle.endings.proofs.Homes.{nothing_blocked, moved_other}
use Rattle.endings.proofs.Chances.{best_is, chance_le}
use Rattle.endings.proofs.Leads.{moves, turn_leads}
use Rattle.endings.proofs.Alike.{own_same, listed_same}
use Rattle.endings.proofs.Lengths.{most_after}
use Rattle.endings.proofs.Short.{length_short}
use Rattle.endings.proofs.Settles.{chance-same, chance-exact, exact-step, loss-same}
use Rattle.endings.proofs.Places.{sizes}
use Rattle.endings.proofs.HomePlaces.{below, apart, each, first}
use Rattle.endings.proofs.Falls.{move_falls, turn_falls, leads_for}
use Rattle.endings.proofs.laws_stand.Goals as goal

chances : Laws
chances =
    record {
      thirty_six = weights;
      every_roll = every_roll;
      either_way = listed_turned;
      bests = best_is;
      at_most = chance_le;
      nothing_hit = λ p s d e. moved_other p s d e.own e.other;
      nothing_blocked = λ p s d e. nothing_blocked p s d e.own e.other;
      moves = moves;
      leads = turn_leads;
      stays = leads_for;
      alike = λ p q x y e f same. (listed_same p q x y e.own e.other f.other same, λ t. own_same p q t same);
      lengths = most_after;
      short = length_short;
      settles = chance-same;
      settled = chance-exact;
      means = exact-step;
      losses = λ n p x y. loss-same n p (x, y);
    }

places : PlaceLaws
places = record { sizes = sizes; below = below; apart = apart; each = each; first = first; move_falls = move_falls; turn_falls = turn_falls }

pub returns : goal.returns
returns c = record { chances = chances; places = places }
