use Rattle.std.proofs.Common.{◌≡◌, max, length}
use Rattle.lowering.specs.Lowered.{places_reach}
use Rattle.lowering.proofs.reaches.places_reach.Given as goal

abbrev pub invariant-places : goal.invariant-places
invariant-places l = max l.reach (places_reach l.rest) ≡ max l.least (places_reach l.places)

abbrev pub decreases-places : goal.decreases-places
decreases-places l = length l.rest
