-- How a function's body is seen.
use Rattle.std.specs.Prelude.{map}
use Rattle.xanadu_tree.specs.PlainOf.{plain_stmt}
use Rattle.scope_shapes.specs.declared.bodies.Inner as code
use Rattle.scope_shapes.specs.Shape.{Inner}

abbrev pub inner_of : code.Inner → Inner
inner_of inner = record { kinds = inner.kinds.items; stmts = map plain_stmt inner.stmts.items }
