-- How a statement and a block are seen.
use Rattle.std.specs.Prelude.{map}
use Rattle.xanadu_tree.specs.PlainOf.{plain_stmt}
use Rattle.scope_shapes.specs.declared.simple.Done as code_done
use Rattle.scope_shapes.specs.declared.simple.Body as code_body
use Rattle.scope_shapes.specs.Statements.{Done, Body}

abbrev pub done_of : code_done.Done → Done
done_of done = record { stmt = plain_stmt done.stmt; completes = done.completes }

abbrev pub body_of : code_body.Body → Body
body_of body = record { stmts = map plain_stmt body.stmts.items; completes = body.completes }
