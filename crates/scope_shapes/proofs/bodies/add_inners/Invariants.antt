use Rattle.std.proofs.Common.{◌≡◌, length, map}
use Rattle.scope_shapes.specs.BodiesOf.{inner_of}
use Rattle.type_shapes.specs.HeadersOf.{header_of}
use Rattle.scope_shapes.specs.Shape.{inners}
use Rattle.expression_shapes.specs.SitesOf.{globals_of}
use Rattle.scope_shapes.proofs.bodies.add_inners.Given as goal

abbrev pub invariant-loop-headers : goal.invariant-loop-headers
invariant-loop-headers l = inners (globals_of l.globals) (map header_of l.headers) (map inner_of l.made.items) ≡ inners (globals_of l.globals) (map header_of l.fn.headers) (map inner_of l.fn.made.items)

abbrev pub decreases-loop-headers : goal.decreases-loop-headers
decreases-loop-headers l = length l.headers
