use Rattle.listing.proofs.Unique.{one-listing}
use Rattle.listing.proofs.Listed.{listed_is}
use Rattle.listing.proofs.Some.{some_allowed}
use Rattle.listing.proofs.visit.listing_stands.Goals as goal

pub returns : goal.returns
returns c = record { lists = listed_is; one = one-listing; some = λ b x y o r. some_allowed b x y o r.0.1 r.1.1 }
