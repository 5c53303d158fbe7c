use Rattle.std.proofs.Common.{◌≡◌, length, map}
use Rattle.xanadu_tree.specs.PlainTreeOf.{plain_declaration}
use Rattle.type_shapes.specs.Headers.{type_names}
use Rattle.type_shapes.specs.TypesOf.{types_of}
use Rattle.type_shapes.proofs.headers.add_type_names.Given as goal

abbrev pub invariant-loop-declarations : goal.invariant-loop-declarations
invariant-loop-declarations l = type_names (map plain_declaration l.declarations) (types_of l.types) ≡ type_names (map plain_declaration l.fn.declarations) (types_of l.fn.types)

abbrev pub decreases-loop-declarations : goal.decreases-loop-declarations
decreases-loop-declarations l = length l.declarations
