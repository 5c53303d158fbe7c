use Rattle.std.proofs.Common.{◌≡◌, ◌+◌, ◌≤◌, length}
use Rattle.dtal_code.specs.Refusing.{types_walked}
use Rattle.dtal_verifier.specs.Views.{table_with}
use Rattle.dtal_verifier.proofs.types.check_types.Given as goal

abbrev pub invariant-loop-left : goal.invariant-loop-left
invariant-loop-left l = (types_walked (table_with l.types) l.number l.left ≡ types_walked (table_with l.types) 2 l.types) × (l.number + length l.left ≤ 65536)

abbrev pub decreases-loop-left : goal.decreases-loop-left
decreases-loop-left l = length l.left
