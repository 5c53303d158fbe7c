use Rattle.std.proofs.Common.{◌≡◌, length, map}
use Rattle.xanadu_tree.specs.PlainTreeOf.{plain_type}
use Rattle.type_shapes.specs.FrameOf.{frame_of}
use Rattle.type_shapes.specs.TypesOf.{types_of}
use Rattle.type_shapes.specs.Quantifiers.{types_in}
use Rattle.type_shapes.proofs.types.add_types.Given as goal

abbrev pub invariant-loop-written : goal.invariant-loop-written
invariant-loop-written l = types_in (types_of l.types) l.scope (map plain_type l.written) l.made.items (frame_of l.frame) ≡ types_in (types_of l.types) l.scope (map plain_type l.fn.written) l.fn.made.items (frame_of l.fn.frame)

abbrev pub decreases-loop-written : goal.decreases-loop-written
decreases-loop-written l = length l.written
