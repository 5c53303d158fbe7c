use Rattle.std.proofs.Common.{◌≡◌, ◌≤◌, map, drop}
use Rattle.expression_elaborator.specs.Views.{AreWithin, site_of, state_of, sides_of, same_sides}
use Rattle.typed_core.specs.Tests.{all_true, all_false}
use Rattle.xanadu_tree.specs.PlainOf.{plain_test, to_tests}
use Rattle.expression_elaborator.proofs.tests.+tests.Given as goal

abbrev pub invariant-all_true-loop-part : goal.invariant-all_true-loop-part
invariant-all_true-loop-part l = (all_true (site_of l.site) (to_tests (map plain_test (drop l.part-index l.parts))) (sides_of l.sides (state_of l.st))
    ≡ all_true (site_of l.site) (to_tests (map plain_test l.parts)) (same_sides (state_of l.fn.st))) × (l.fn.st.ctx.vars ≤ l.st.ctx.vars) × AreWithin l.sides l.st.ctx.vars

abbrev pub invariant-all_false-loop-part : goal.invariant-all_false-loop-part
invariant-all_false-loop-part l = (all_false (site_of l.site) (to_tests (map plain_test (drop l.part-index l.parts))) (sides_of l.sides (state_of l.st))
    ≡ all_false (site_of l.site) (to_tests (map plain_test l.parts)) (same_sides (state_of l.fn.st))) × (l.fn.st.ctx.vars ≤ l.st.ctx.vars) × AreWithin l.sides l.st.ctx.vars
