use Rattle.std.proofs.Common.{◌≡◌, length}
use Rattle.type_carrier.specs.Ways.{present_at}
use Rattle.type_carrier.proofs.ways.present_at.Given as goal

abbrev pub invariant-vars : goal.invariant-vars
invariant-vars l = present_at l.named l.types l.place ≡ present_at l.vars l.present l.place

abbrev pub decreases-vars : goal.decreases-vars
decreases-vars l = length l.named
