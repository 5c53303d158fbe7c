use Rattle.std.proofs.Common.{◌≡◌, map, take, Some}
use Rattle.source_values.proofs.variables.of_arguments.Given as goal

abbrev pub invariant-loop-arg : goal.invariant-loop-arg
invariant-loop-arg l = l.slots.items ≡ map Some (take l.arg-index l.args)
