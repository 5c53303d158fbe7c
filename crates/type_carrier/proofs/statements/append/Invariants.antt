use Rattle.std.proofs.Common.{◌≡◌, ◌++◌}
use Rattle.type_carrier.proofs.statements.append.Given as goal

abbrev pub invariant-loop-edge : goal.invariant-loop-edge
invariant-loop-edge l = l.edges.items ++ l.edge-iterator.rest.items ≡ l.fn.edges.items ++ l.fn.later.items
