use Rattle.std.proofs.Common.{◌≡◌, length}
use Rattle.operation_rules.specs.Rules.{of_kinds}
use Rattle.operation_rules.proofs.closed_types.of_kinds.Given as goal

abbrev pub invariant-loop-wanted : goal.invariant-loop-wanted
invariant-loop-wanted l = of_kinds l.wanted l.actual ≡ of_kinds l.fn.wanted l.fn.actual

abbrev pub decreases-loop-wanted : goal.decreases-loop-wanted
decreases-loop-wanted l = length l.wanted
