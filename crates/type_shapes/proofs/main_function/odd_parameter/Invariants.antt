use Rattle.std.proofs.Common.{◌≡◌, length, map}
use Rattle.xanadu_tree.specs.PlainTreeOf.{plain_parameter}
use Rattle.type_shapes.specs.Headers.{odd_parameter}
use Rattle.type_shapes.proofs.main_function.odd_parameter.Given as goal

abbrev pub invariant-loop-parameters : goal.invariant-loop-parameters
invariant-loop-parameters l = odd_parameter (map plain_parameter l.parameters) l.types ≡ odd_parameter (map plain_parameter l.fn.parameters) l.fn.types

abbrev pub decreases-loop-parameters : goal.decreases-loop-parameters
decreases-loop-parameters l = length l.parameters
