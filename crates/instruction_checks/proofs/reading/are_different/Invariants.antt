use Rattle.std.proofs.Common.{◌≡◌, length}
use Rattle.dtal_code.specs.Passing.{are_different}
use Rattle.instruction_checks.proofs.reading.are_different.Given as goal

abbrev pub invariant-loop-places : goal.invariant-loop-places
invariant-loop-places l = are_different l.places ≡ are_different l.fn.places

abbrev pub decreases-loop-places : goal.decreases-loop-places
decreases-loop-places l = length l.places
