use Rattle.std.proofs.Common.{◌≡◌, length, map}
use Rattle.xanadu_tree.specs.PlainTreeOf.{plain_parameter}
use Rattle.type_shapes.specs.Headers.{parameter_names}
use Rattle.type_shapes.proofs.names.add_parameter_names.Given as goal

abbrev pub invariant-loop-parameters : goal.invariant-loop-parameters
invariant-loop-parameters l = parameter_names (map plain_parameter l.parameters) l.number l.scope ≡ parameter_names (map plain_parameter l.fn.parameters) 0 l.fn.scope

abbrev pub decreases-loop-parameters : goal.decreases-loop-parameters
decreases-loop-parameters l = length l.parameters
