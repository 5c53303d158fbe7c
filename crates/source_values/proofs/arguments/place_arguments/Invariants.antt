use Rattle.std.proofs.Common.{◌≡◌, [], length}
use Rattle.source_values.specs.Placing.{values_placed}
use Rattle.source_values.proofs.arguments.place_arguments.Given as goal

abbrev pub invariant-each : goal.invariant-each
invariant-each l = values_placed l.values.items l.left l.store ≡ values_placed [] l.fn.args l.fn.store

abbrev pub decreases-each : goal.decreases-each
decreases-each l = length l.left
