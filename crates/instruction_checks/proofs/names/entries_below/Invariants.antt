use Rattle.std.proofs.Common.{◌≡◌, length}
use Rattle.dtal_code.specs.Declarations.{types_are_below, typed_types}
use Rattle.instruction_checks.proofs.names.entries_below.Given as goal

abbrev pub invariant-loop-entries : goal.invariant-loop-entries
invariant-loop-entries l = types_are_below l.vars (typed_types l.entries) ≡ types_are_below l.vars (typed_types l.fn.entries)

abbrev pub decreases-loop-entries : goal.decreases-loop-entries
decreases-loop-entries l = length l.entries
