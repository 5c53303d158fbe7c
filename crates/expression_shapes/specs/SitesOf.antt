-- How a site is seen, and what is made there.
use Rattle.std.specs.Prelude.{ℕ}
use Rattle.xanadu_tree.specs.declared.expr.CoreExpr.{CoreExpr}
use Rattle.xanadu_tree.specs.declared.expr.Op.{Op}
use Rattle.xanadu_tree.specs.PlainOf.{plain_expr}
use Rattle.expression_shapes.specs.declared.site.Callee as code_callee
use Rattle.expression_shapes.specs.declared.site.Globals as code_globals
use Rattle.expression_shapes.specs.declared.site.Locals as code_locals
use Rattle.expression_shapes.specs.declared.site.Typed as code_typed
use Rattle.expression_shapes.specs.Expressions.{Link}
use Rattle.type_shapes.specs.Headers.{Header}
use Rattle.type_shapes.specs.HeadersOf.{header_of, functions_of}
use Rattle.expression_shapes.specs.Sites.{Globals, Locals, Typed}
use Rattle.type_shapes.specs.TypesOf.{types_of}

abbrev pub globals_of : code_globals.Globals → Globals
globals_of globals = record { types = types_of globals.types; packings = globals.packings.items; functions = functions_of globals.functions }

abbrev pub locals_of : code_locals.Locals → Locals
locals_of locals = record { variables = locals.variables; kinds = locals.kinds.items; indices = locals.indices; next = locals.next }

abbrev pub typed_of : code_typed.Typed → Typed
typed_of typed = record { expr = plain_expr typed.expr; kind = typed.kind }

abbrev pub callee_of : code_callee.Callee → ℕ × Header
callee_of callee = (callee.number, header_of callee.header.now)

abbrev pub link_of : Op × CoreExpr × ℕ → Link
link_of l = (l.0, plain_expr l.1, l.2)
