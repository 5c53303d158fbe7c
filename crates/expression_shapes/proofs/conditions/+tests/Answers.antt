use Rattle.std.proofs.Common.{◌≡◌, ◌∙◌, true, List, [], ◌∷◌, map, Ok, sym, ap, subst, rules}
use Rattle.xanadu_tree.specs.declared.tree.expression.Conjunction.{out-Conjunction}
use Rattle.xanadu_tree.specs.declared.tree.expression.Expression.{out-Expression}
use Rattle.xanadu_tree.specs.Plain as core
use Rattle.xanadu_tree.specs.PlainOf.{plain_test}
use Rattle.xanadu_tree.specs.PlainTreeOf.{plain_conjunction, plain_expression, plain_negation}
use Rattle.xanadu_tree.proofs.TreeEquations.{plain_conjunction-out, plain_expression-out}
use Rattle.type_shapes.specs.Code.{Fails}
use Rattle.expression_shapes.specs.Expressions as spec
use Rattle.type_shapes.specs.Faults.{Check, ◌>>=◌}
use Rattle.expression_shapes.specs.NodesOf.{conjunctions_of, negations_of}
use Rattle.expression_shapes.specs.SitesOf.{globals_of, locals_of}
use Rattle.type_shapes.proofs.Binds.{then-ok, fails-then}
use Rattle.expression_shapes.proofs.Choices.{any_of, all_of, test-any, conjunction-all}
use Rattle.expression_shapes.proofs.conditions.+tests.Goals as goal

pub conjunction_test-returns : goal.conjunction_test-returns
conjunction_test-returns t c =
    let g = globals_of c.args.site.now.globals.now in
    let l = locals_of c.args.site.now.locals.now in
    let node = out-Conjunction c.args.c.now in
    let some : spec.has_negation (negations_of node.rest.items) ≡ true = search rules in
    let first : spec.negation_test g l (plain_negation node.first) ≡ Ok (plain_test c.in_ok-first.first) = c.in_ok-first.ensures in
    let more : spec.all_tests g l (negations_of node.rest.items) (plain_test c.in_ok-first.first ∷ []) ≡ Ok (map plain_test c.in_ok-all_tests.field-0.items) = search rules in
    ap (λ n. spec.conjunction_test g l n) (plain_conjunction-out c.args.c.now)
    ∙ conjunction-all g l (plain_negation node.first) (negations_of node.rest.items) node.at (plain_test c.in_ok-first.first) first some
    ∙ then-ok (spec.all_tests g l (negations_of node.rest.items) (plain_test c.in_ok-first.first ∷ [])) all_of (map plain_test c.in_ok-all_tests.field-0.items) more
    ∙ ap Ok (sym c.all.ensures)

pub conjunction_test-returns-in_err-all_tests : goal.conjunction_test-returns-in_err-all_tests
conjunction_test-returns-in_err-all_tests t c =
    let g = globals_of c.args.site.now.globals.now in
    let l = locals_of c.args.site.now.locals.now in
    let node = out-Conjunction c.args.c.now in
    let some : spec.has_negation (negations_of node.rest.items) ≡ true = search rules in
    let first : spec.negation_test g l (plain_negation node.first) ≡ Ok (plain_test c.in_ok-first.first) = c.in_ok-first.ensures in
    let all : Check (List core.Test) = spec.all_tests g l (negations_of node.rest.items) (plain_test c.in_ok-first.first ∷ []) in
    let failed : Fails c.in_err-all_tests.field-0.0 all = search rules in
    let same : spec.conjunction_test g l (plain_conjunction c.args.c.now) ≡ (all >>= all_of) =
    ap (λ n. spec.conjunction_test g l n) (plain_conjunction-out c.args.c.now)
    ∙ conjunction-all g l (plain_negation node.first) (negations_of node.rest.items) node.at (plain_test c.in_ok-first.first) first some in
    let key : Fails c.in_err-all_tests.field-0.0 (spec.conjunction_test g l (plain_conjunction c.args.c.now)) =
    subst (λ w. Fails c.in_err-all_tests.field-0.0 w) (sym same) (fails-then c.in_err-all_tests.field-0.0 all all_of failed) in
    search (rules, key)

pub test-returns : goal.test-returns
test-returns t c =
    let g = globals_of c.args.site.now.globals.now in
    let l = locals_of c.args.site.now.locals.now in
    let node = out-Expression c.args.e.now in
    let some : spec.has_conjunction (conjunctions_of node.rest.items) ≡ true = search rules in
    let first : spec.conjunction_test g l (plain_conjunction node.first) ≡ Ok (plain_test c.in_ok-first.first) = c.in_ok-first.ensures in
    let more : spec.any_tests g l (conjunctions_of node.rest.items) (plain_test c.in_ok-first.first ∷ []) ≡ Ok (map plain_test c.in_ok-any_tests.field-0.items) = search rules in
    ap (λ n. spec.expression_test g l n) (plain_expression-out c.args.e.now)
    ∙ test-any g l (plain_conjunction node.first) (conjunctions_of node.rest.items) node.at (plain_test c.in_ok-first.first) first some
    ∙ then-ok (spec.any_tests g l (conjunctions_of node.rest.items) (plain_test c.in_ok-first.first ∷ [])) any_of (map plain_test c.in_ok-any_tests.field-0.items) more
    ∙ ap Ok (sym c.any.ensures)

pub test-returns-in_err-any_tests : goal.test-returns-in_err-any_tests
test-returns-in_err-any_tests t c =
    let g = globals_of c.args.site.now.globals.now in
    let l = locals_of c.args.site.now.locals.now in
    let node = out-Expression c.args.e.now in
    let some : spec.has_conjunction (conjunctions_of node.rest.items) ≡ true = search rules in
    let first : spec.conjunction_test g l (plain_conjunction node.first) ≡ Ok (plain_test c.in_ok-first.first) = c.in_ok-first.ensures in
    let all : Check (List core.Test) = spec.any_tests g l (conjunctions_of node.rest.items) (plain_test c.in_ok-first.first ∷ []) in
    let failed : Fails c.in_err-any_tests.field-0.0 all = search rules in
    let same : spec.expression_test g l (plain_expression c.args.e.now) ≡ (all >>= any_of) =
    ap (λ n. spec.expression_test g l n) (plain_expression-out c.args.e.now)
    ∙ test-any g l (plain_conjunction node.first) (conjunctions_of node.rest.items) node.at (plain_test c.in_ok-first.first) first some in
    let key : Fails c.in_err-any_tests.field-0.0 (spec.expression_test g l (plain_expression c.args.e.now)) =
    subst (λ w. Fails c.in_err-any_tests.field-0.0 w) (sym same) (fails-then c.in_err-any_tests.field-0.0 all any_of failed) in
    search (rules, key)
