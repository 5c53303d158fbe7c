use Rattle.std.proofs.Common.{◌≡◌, length, map}
use Rattle.xanadu_tree.specs.PlainTreeOf.{plain_declaration}
use Rattle.type_shapes.specs.Headers.{headers}
use Rattle.type_shapes.specs.HeadersOf.{functions_of}
use Rattle.type_shapes.specs.TypesOf.{types_of}
use Rattle.type_shapes.proofs.headers.add_headers.Given as goal

abbrev pub invariant-loop-declarations : goal.invariant-loop-declarations
invariant-loop-declarations l = headers (types_of l.types) (map plain_declaration l.declarations) (functions_of l.functions) ≡ headers (types_of l.types) (map plain_declaration l.fn.declarations) (functions_of l.fn.functions)

abbrev pub decreases-loop-declarations : goal.decreases-loop-declarations
decreases-loop-declarations l = length l.declarations
