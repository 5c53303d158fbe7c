use Rattle.std.proofs.Common.{◌≡◌, ◌+◌, ◌++◌, ◌≤◌, length}
use Rattle.dtal_code.specs.Declarations.{numbered}
use Rattle.dtal_verifier.proofs.states.numbered.Given as goal

abbrev pub invariant-loop-types : goal.invariant-loop-types
invariant-loop-types l = (l.made.items ++ numbered l.place l.types ≡ numbered 0 l.fn.types) × (l.place + length l.types ≤ 8)

abbrev pub decreases-loop-types : goal.decreases-loop-types
decreases-loop-types l = length l.types
