use Rattle.std.proofs.Common.{◌≡◌, map, drop, [], ◌∷◌}
use Rattle.xanadu_tree.specs.PlainOf.{plain_test}
use Rattle.expression_shapes.specs.Expressions as spec
use Rattle.expression_shapes.specs.NodesOf.{conjunctions_of, negations_of}
use Rattle.expression_shapes.specs.SitesOf.{globals_of, locals_of}
use Rattle.expression_shapes.proofs.conditions.+tests.Given as goal

abbrev pub invariant-any_tests-loop-part : goal.invariant-any_tests-loop-part
invariant-any_tests-loop-part l =
    spec.any_tests (globals_of l.site.globals.now) (locals_of l.site.locals.now) (conjunctions_of (drop l.part-index l.rest)) (map plain_test l.parts.items)
    ≡ spec.any_tests (globals_of l.site.globals.now) (locals_of l.site.locals.now) (conjunctions_of l.rest) (plain_test l.fn.first ∷ [])

abbrev pub invariant-all_tests-loop-part : goal.invariant-all_tests-loop-part
invariant-all_tests-loop-part l =
    spec.all_tests (globals_of l.site.globals.now) (locals_of l.site.locals.now) (negations_of (drop l.part-index l.rest)) (map plain_test l.parts.items)
    ≡ spec.all_tests (globals_of l.site.globals.now) (locals_of l.site.locals.now) (negations_of l.rest) (plain_test l.fn.first ∷ [])
