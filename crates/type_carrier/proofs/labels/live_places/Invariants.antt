use Rattle.std.proofs.Common.{◌≡◌, [], length}
use Rattle.type_carrier.specs.Ways.{live_places}
use Rattle.type_carrier.proofs.labels.live_places.Given as goal

abbrev pub invariant-places : goal.invariant-places
invariant-places l = live_places l.columns l.label l.rest l.made.items ≡ live_places l.columns l.label l.entries []

abbrev pub decreases-places : goal.decreases-places
decreases-places l = length l.rest
