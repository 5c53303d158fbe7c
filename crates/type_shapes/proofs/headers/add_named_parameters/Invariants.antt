use Rattle.std.proofs.Common.{◌≡◌, length, map}
use Rattle.xanadu_tree.specs.PlainTreeOf.{plain_parameter}
use Rattle.type_shapes.specs.FrameOf.{frame_of}
use Rattle.type_shapes.specs.Headers.{parameters_in}
use Rattle.type_shapes.specs.TypesOf.{types_of}
use Rattle.type_shapes.proofs.headers.add_named_parameters.Given as goal

abbrev pub invariant-loop-parameters : goal.invariant-loop-parameters
invariant-loop-parameters l = parameters_in (types_of l.types) l.scope (map plain_parameter l.parameters) l.named l.made.items (frame_of l.frame)
    ≡ parameters_in (types_of l.types) l.scope (map plain_parameter l.fn.parameters) l.fn.named l.fn.made.items (frame_of l.fn.frame)

abbrev pub decreases-loop-parameters : goal.decreases-loop-parameters
decreases-loop-parameters l = length l.parameters
