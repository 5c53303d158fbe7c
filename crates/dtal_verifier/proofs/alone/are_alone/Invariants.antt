use Rattle.std.proofs.Common.{◌≡◌, ◌+◌, ◌≤◌}
use Rattle.dtal_code.specs.Declarations.{are_alone}
use Rattle.dtal_verifier.proofs.alone.are_alone.Given as goal

abbrev pub invariant-loop-left : goal.invariant-loop-left
invariant-loop-left l = (are_alone l.var l.left l.types ≡ are_alone l.fn.first l.fn.count l.types) × (l.var + l.left ≤ 8589934590)

abbrev pub decreases-loop-left : goal.decreases-loop-left
decreases-loop-left l = l.left
