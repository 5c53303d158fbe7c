use Rattle.std.proofs.Common.{◌≡◌, map, drop, []}
use Rattle.xanadu_tree.specs.PlainOf.{plain_expr}
use Rattle.xanadu_tree.specs.PlainTreeOf.{plain_indices, plain_expressions}
use Rattle.expression_shapes.specs.Expressions as spec
use Rattle.expression_shapes.specs.NodesOf.{addends_of, factors_of}
use Rattle.expression_shapes.specs.SitesOf.{globals_of, locals_of, typed_of, link_of}
use Rattle.expression_shapes.proofs.expressions.+expression.Given as goal

abbrev pub invariant-addends-loop-op : goal.invariant-addends-loop-op
invariant-addends-loop-op l =
    spec.addends (globals_of l.site.globals.now) (locals_of l.site.locals.now) (addends_of (drop l.op-index l.rest)) (map link_of l.links.items)
    ≡ spec.addends (globals_of l.site.globals.now) (locals_of l.site.locals.now) (addends_of l.rest) []

abbrev pub invariant-factors-loop-op : goal.invariant-factors-loop-op
invariant-factors-loop-op l =
    spec.factors (globals_of l.site.globals.now) (locals_of l.site.locals.now) (factors_of (drop l.op-index l.rest)) (map link_of l.links.items)
    ≡ spec.factors (globals_of l.site.globals.now) (locals_of l.site.locals.now) (factors_of l.rest) []

abbrev pub invariant-indexed-loop-index : goal.invariant-indexed-loop-index
invariant-indexed-loop-index l =
    spec.indexed (globals_of l.site.globals.now) (locals_of l.site.locals.now) (plain_indices (drop l.index-index l.indices)) l.at (typed_of l.array)
    ≡ spec.indexed (globals_of l.site.globals.now) (locals_of l.site.locals.now) (plain_indices l.indices) l.at (typed_of l.fn.array)

abbrev pub invariant-arguments-loop-argument : goal.invariant-arguments-loop-argument
invariant-arguments-loop-argument l =
    (l.place ≡ l.argument-index) ×
    (spec.arguments (globals_of l.site.globals.now) (locals_of l.site.locals.now) (plain_expressions (drop l.argument-index l.given)) l.types l.place (map plain_expr l.args.items)
    ≡ spec.arguments (globals_of l.site.globals.now) (locals_of l.site.locals.now) (plain_expressions l.given) l.types 0 [])
