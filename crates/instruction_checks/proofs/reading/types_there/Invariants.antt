use Rattle.std.proofs.Common.{◌≡◌, length, map}
use Rattle.operation_rules.specs.Applied.{all_there}
use Rattle.operation_rules.proofs.PlacesRead.{there_behind}
use Rattle.state_types.specs.PlaceTypes.{type_at}
use Rattle.instruction_checks.proofs.reading.types_there.Given as goal

abbrev pub invariant-loop-reads : goal.invariant-loop-reads
invariant-loop-reads l = there_behind l.made.items (all_there (map (λ place. type_at place l.places) l.reads)) ≡ all_there (map (λ place. type_at place l.places) l.fn.reads)

abbrev pub decreases-loop-reads : goal.decreases-loop-reads
decreases-loop-reads l = length l.reads
