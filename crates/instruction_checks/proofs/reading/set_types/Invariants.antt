use Rattle.std.proofs.Common.{◌≡◌, length}
use Rattle.dtal_code.specs.Passing.{with_types}
use Rattle.instruction_checks.proofs.reading.set_types.Given as goal

abbrev pub invariant-loop-writes : goal.invariant-loop-writes
invariant-loop-writes l = with_types l.writes l.types l.places ≡ with_types l.fn.writes l.fn.types l.fn.places

abbrev pub decreases-loop-writes : goal.decreases-loop-writes
decreases-loop-writes l = length l.writes
