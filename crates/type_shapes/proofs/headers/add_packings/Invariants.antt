use Rattle.std.proofs.Common.{◌≡◌, length, map}
use Rattle.xanadu_tree.specs.PlainTreeOf.{plain_declaration}
use Rattle.type_shapes.specs.Headers.{packings}
use Rattle.type_shapes.specs.TypesOf.{types_of}
use Rattle.type_shapes.proofs.headers.add_packings.Given as goal

abbrev pub invariant-loop-declarations : goal.invariant-loop-declarations
invariant-loop-declarations l = packings (types_of l.types) (map plain_declaration l.declarations) l.made.items ≡ packings (types_of l.types) (map plain_declaration l.fn.declarations) l.fn.made.items

abbrev pub decreases-loop-declarations : goal.decreases-loop-declarations
decreases-loop-declarations l = length l.declarations
