use Rattle.std.proofs.Common.{◌≡◌, [], length}
use Rattle.dtal_emit.specs.Emitted.{at_homes}
use Rattle.dtal_emit.proofs.labels.at_homes.Given as goal

abbrev pub invariant-places : goal.invariant-places
invariant-places l = at_homes l.homes l.rest l.made ≡ at_homes l.homes l.places []

abbrev pub decreases-places : goal.decreases-places
decreases-places l = length l.rest
