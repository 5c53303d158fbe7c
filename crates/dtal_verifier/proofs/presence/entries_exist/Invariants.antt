use Rattle.std.proofs.Common.{◌≡◌, length}
use Rattle.dtal_code.specs.Declarations.{types_exist, typed_types}
use Rattle.dtal_verifier.specs.Views.{table_with}
use Rattle.dtal_verifier.proofs.presence.entries_exist.Given as goal

abbrev pub invariant-loop-entries : goal.invariant-loop-entries
invariant-loop-entries l = types_exist (table_with l.types) (typed_types l.entries) ≡ types_exist (table_with l.types) (typed_types l.fn.entries)

abbrev pub decreases-loop-entries : goal.decreases-loop-entries
decreases-loop-entries l = length l.entries
