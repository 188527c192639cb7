-- What a value of a kind holds.
use Rattle.chance.specs.Fraction.{Fraction, Holds}
use Rattle.chance.specs.declared.kind.Chance.{Ghosts}

-- the value x of the kind k holds the fraction q
abbrev pub Held : {V S R : Type 0} → Ghosts V S R → V → Fraction → Type 0
Held k x q = Holds k.SCALE (k.lower x) (k.upper x) q
