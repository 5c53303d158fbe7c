use Rattle.std.proofs.Common.{◌≡◌, length}
use Rattle.operation_rules.specs.Applied.{all_there}
use Rattle.operation_rules.proofs.PlacesRead.{there_behind}
use Rattle.operation_rules.proofs.placed.all_there.Given as goal

abbrev pub invariant-loop-places : goal.invariant-loop-places
invariant-loop-places l = there_behind l.made.items (all_there l.places) ≡ all_there l.fn.places

abbrev pub decreases-loop-places : goal.decreases-loop-places
decreases-loop-places l = length l.places
