use Rattle.std.proofs.Common.{◌≡◌, ◌∙◌, Ok, sym, ap, subst, rules}
use Rattle.std.specs.Option.{option_map}
use Rattle.xanadu_tree.specs.declared.stmt.Clause.{Clause}
use Rattle.xanadu_tree.specs.PlainOf.{plain_test}
use Rattle.xanadu_tree.specs.PlainTreeOf.{plain_block, plain_clause, plain_expression, plain_statement, to_branch}
use Rattle.xanadu_tree.proofs.TreeEquations.{plain_statement-If}
use Rattle.std.specs.Prelude.{Option}
use Rattle.type_shapes.specs.Code.{Fails}
use Rattle.expression_shapes.specs.Expressions as expressions
use Rattle.type_shapes.specs.Faults.{Check, ◌>>=◌}
use Rattle.expression_shapes.specs.Sites.{Locals}
use Rattle.expression_shapes.specs.SitesOf.{globals_of, locals_of}
use Rattle.scope_shapes.specs.StatementsOf.{body_of}
use Rattle.scope_shapes.specs.Statements as spec
use Rattle.type_shapes.proofs.Binds.{then-ok, fails-then}
use Rattle.scope_shapes.proofs.Branches.{behind_join, behind_no, if-branches}
use Rattle.scope_shapes.proofs.block.+block.Goals as goal

pub statement-returns-in_err-no-in-If : goal.statement-returns-in_err-no-in-If
statement-returns-in_err-no-in-If t c =
    let g = globals_of c.args.globals.now in
    let l = locals_of c.args.locals.now in
    let join = option_map plain_clause c.in-If.join in
    let no_branch = to_branch (option_map plain_block c.in-If.on_false) in
    let it = plain_test c.in_ok-test-in-If.test in
    let tested : expressions.expression_test g l (plain_expression c.in-If.test) ≡ Ok it = search rules in
    let first : spec.block g c.args.given (plain_block c.in-If.on_true) l ≡ Ok (body_of c.in_ok-yes-in-If.yes, locals_of c.block.new.locals) = search rules in
    let second : Check (spec.Body × Locals) = spec.branch g c.args.given no_branch (locals_of c.block.new.locals) in
    let failed : Fails c.in_err-no-in-If.field-0.0 second = search rules in
    let same : spec.statement g c.args.given (plain_statement c.args.statement.now) l ≡ (second >>= behind_no g c.args.given join c.in-If.at it (body_of c.in_ok-yes-in-If.yes)) =
    ap (λ s. spec.statement g c.args.given (plain_statement s) l) c.in-If.is
    ∙ ap (λ s. spec.statement g c.args.given s l) (plain_statement-If c.in-If.test c.in-If.on_true c.in-If.on_false c.in-If.join c.in-If.at)
    ∙ if-branches g c.args.given join c.in-If.at (plain_expression c.in-If.test) (plain_block c.in-If.on_true) no_branch l it (body_of c.in_ok-yes-in-If.yes) (locals_of c.block.new.locals) tested first in
    let key : Fails c.in_err-no-in-If.field-0.0 (spec.statement g c.args.given (plain_statement c.args.statement.now) l) =
    subst (λ w. Fails c.in_err-no-in-If.field-0.0 w) (sym same)
    (fails-then c.in_err-no-in-If.field-0.0 second (behind_no g c.args.given join c.in-If.at it (body_of c.in_ok-yes-in-If.yes)) failed) in
    search (rules, key)

pub statement-returns-in_err-join-in-If : goal.statement-returns-in_err-join-in-If
statement-returns-in_err-join-in-If t c =
    let g = globals_of c.args.globals.now in
    let l = locals_of c.args.locals.now in
    let join = option_map plain_clause c.in-If.join in
    let no_branch = to_branch (option_map plain_block c.in-If.on_false) in
    let it = plain_test c.in_ok-test-in-If.test in
    let yes_body = body_of c.in_ok-yes-in-If.yes in
    let no_body = body_of c.in_ok-no-in-If.no in
    let tested : expressions.expression_test g l (plain_expression c.in-If.test) ≡ Ok it = search rules in
    let first : spec.block g c.args.given (plain_block c.in-If.on_true) l ≡ Ok (yes_body, locals_of c.block.new.locals) = search rules in
    let second : spec.branch g c.args.given no_branch (locals_of c.block.new.locals) ≡ Ok (no_body, locals_of c.branch-on_false.new.locals) = search rules in
    let third : Check (Option Clause × Locals) = spec.clause_or_none g.types join (locals_of c.branch-on_false.new.locals) in
    let failed : Fails c.in_err-join-in-If.field-0.0 third = search rules in
    let same : spec.statement g c.args.given (plain_statement c.args.statement.now) l ≡ (third >>= behind_join g c.args.given join c.in-If.at it yes_body no_body) =
    ap (λ s. spec.statement g c.args.given (plain_statement s) l) c.in-If.is
    ∙ ap (λ s. spec.statement g c.args.given s l) (plain_statement-If c.in-If.test c.in-If.on_true c.in-If.on_false c.in-If.join c.in-If.at)
    ∙ if-branches g c.args.given join c.in-If.at (plain_expression c.in-If.test) (plain_block c.in-If.on_true) no_branch l it yes_body (locals_of c.block.new.locals) tested first
    ∙ then-ok (spec.branch g c.args.given no_branch (locals_of c.block.new.locals)) (behind_no g c.args.given join c.in-If.at it yes_body) (no_body, locals_of c.branch-on_false.new.locals) second in
    let key : Fails c.in_err-join-in-If.field-0.0 (spec.statement g c.args.given (plain_statement c.args.statement.now) l) =
    subst (λ w. Fails c.in_err-join-in-If.field-0.0 w) (sym same)
    (fails-then c.in_err-join-in-If.field-0.0 third (behind_join g c.args.given join c.in-If.at it yes_body no_body) failed) in
    search (rules, key)

pub statement-returns-in_ok-join-in-If : goal.statement-returns-in_ok-join-in-If
statement-returns-in_ok-join-in-If t c =
    let g = globals_of c.args.globals.now in
    let l = locals_of c.args.locals.now in
    let join = option_map plain_clause c.in-If.join in
    let no_branch = to_branch (option_map plain_block c.in-If.on_false) in
    let it = plain_test c.in_ok-test-in-If.test in
    let yes_body = body_of c.in_ok-yes-in-If.yes in
    let no_body = body_of c.in_ok-no-in-If.no in
    let end = locals_of c.clause_or_none.new.locals in
    let tested : expressions.expression_test g l (plain_expression c.in-If.test) ≡ Ok it = search rules in
    let first : spec.block g c.args.given (plain_block c.in-If.on_true) l ≡ Ok (yes_body, locals_of c.block.new.locals) = search rules in
    let second : spec.branch g c.args.given no_branch (locals_of c.block.new.locals) ≡ Ok (no_body, locals_of c.branch-on_false.new.locals) = search rules in
    let third : spec.clause_or_none g.types join (locals_of c.branch-on_false.new.locals) ≡ Ok (c.in_ok-join-in-If.join, end) = search rules in
    ap (λ s. spec.statement g c.args.given (plain_statement s) l) c.in-If.is
    ∙ ap (λ s. spec.statement g c.args.given s l) (plain_statement-If c.in-If.test c.in-If.on_true c.in-If.on_false c.in-If.join c.in-If.at)
    ∙ if-branches g c.args.given join c.in-If.at (plain_expression c.in-If.test) (plain_block c.in-If.on_true) no_branch l it yes_body (locals_of c.block.new.locals) tested first
    ∙ then-ok (spec.branch g c.args.given no_branch (locals_of c.block.new.locals)) (behind_no g c.args.given join c.in-If.at it yes_body) (no_body, locals_of c.branch-on_false.new.locals) second
    ∙ then-ok (spec.clause_or_none g.types join (locals_of c.branch-on_false.new.locals)) (behind_join g c.args.given join c.in-If.at it yes_body no_body) (c.in_ok-join-in-If.join, end) third
    ∙ ap (λ d. Ok (d, end)) (sym c.choice.ensures)
