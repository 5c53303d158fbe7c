use Rattle.std.proofs.Common.{◌≡◌, ◌≤◌, ◌+◌, length}
use Rattle.typed_core.specs.Joins.{values_at}
use Rattle.constraint_elaborator.proofs.entering.push_values.Given as goal

abbrev pub invariant-loop-xs : goal.invariant-loop-xs
invariant-loop-xs l = (values_at l.places l.var l.xs l.values.items ≡ values_at l.places l.next l.fn.xs l.fn.values.items) × (l.var + length l.xs ≤ 1024)

abbrev pub decreases-loop-xs : goal.decreases-loop-xs
decreases-loop-xs l = length l.xs
