use Rattle.std.proofs.Common.{rules, ◌≡◌, ◌∙◌, ◌≤◌, ◌+◌, ◌*◌, arith, Ok, sym, ap, subst}
use Rattle.typed_core.specs.Statements as spec
use Rattle.xanadu_tree.specs.Plain as core
use Rattle.xanadu_tree.specs.PlainOf.{plain_block, plain_stmt, plain_test}
use Rattle.xanadu_tree.proofs.Equations.{plain_stmt-If}
use Rattle.header_elaborator.specs.Code.{Fails}
use Rattle.expression_elaborator.specs.Views.{site_of, state_of}
use Rattle.constraint_elaborator.specs.BlockViews.{first_branch, second_branch, turns_of}
use Rattle.constraint_elaborator.proofs.BlockParts.{if_fails, if_goes, while_fails, while_goes}
use Rattle.constraint_elaborator.proofs.BlockSizes.{block_depth, depth_of, one_depth}
use Rattle.constraint_elaborator.proofs.blocks.+block.Goals as goal

-- ---- if

pub statement-returns-in_err-between-in-If-clause-moved : goal.statement-returns-in_err-between-in-If-clause-moved
statement-returns-in_err-between-in-If-clause-moved t c =
    let site = site_of c.args.site.now in
    let st = state_of c.args.st.now in
    let why = c.in_err-between-in-If.field-0.0 in
    let test = plain_test c.in-If.test in
    let on_true = plain_block c.in-If.on_true.items in
    let on_false = plain_block c.in-If.on_false.items in
    let same = ap plain_stmt c.in-If.is ∙ plain_stmt-If c.in-If.test c.in-If.on_true c.in-If.on_false c.in-If.join c.in-If.at in
    let first : Fails why (first_branch site test on_true st) =
    subst (λ xs. Fails why (first_branch site test (plain_block xs) st)) c.deref.ensures.value c.in_err-between-in-If.ensures.moved in
    let key : Fails why (spec.statement site (plain_stmt c.args.statement.now) st) = subst (λ s. Fails why (spec.statement site s st)) (sym same)
    (if_fails site test on_true on_false c.in-If.join c.in-If.at st why first) in
    search (rules, key)

pub statement-returns-in_ok-between-in-If-clause-moved : goal.statement-returns-in_ok-between-in-If-clause-moved
statement-returns-in_ok-between-in-If-clause-moved t c =
    let site = site_of c.args.site.now in
    let st = state_of c.args.st.now in
    let test = plain_test c.in-If.test in
    let on_true = plain_block c.in-If.on_true.items in
    let on_false = plain_block c.in-If.on_false.items in
    let join = c.in-If.join in
    let at = c.in-If.at in
    let one = c.in_ok-between-in-If.between.one in
    let other = state_of c.first_branch.new.st in
    let same = ap plain_stmt c.in-If.is ∙ plain_stmt-If c.in-If.test c.in-If.on_true c.in-If.on_false c.in-If.join c.in-If.at in
    let first : first_branch site test on_true st ≡ Ok (one, other) =
    subst (λ xs. first_branch site test (plain_block xs) st ≡ Ok (one, other)) c.deref.ensures.value c.in_ok-between-in-If.ensures.moved in
    let all = ap (λ s. spec.statement site s st) same ∙ if_goes site test on_true on_false join at st (one, other) first
    ∙ ap (λ b. second_branch on_true on_false join site at b one other) (sym c.in_ok-between-in-If.ensures.before)
    ∙ ap (λ xs. second_branch (plain_block xs) on_false join site at c.in_ok-between-in-If.between.before one other) (sym c.deref-in-If-2.ensures.value)
    ∙ ap (λ xs. second_branch (plain_block c.deref-in-If-2.result.now) (plain_block xs) join site at c.in_ok-between-in-If.between.before one other) (sym c.deref-in-If.ensures.value) in
    rw all c.second_branch.ensures.left

-- ---- while

pub repeat-returns-in_err-turns-clause-moved : goal.repeat-returns-in_err-turns-clause-moved
repeat-returns-in_err-turns-clause-moved t c =
    let why = c.in_err-turns.field-0.0 in
    let key : Fails why (spec.statement (site_of c.args.site.now) (core.While (plain_test c.args.test.now) c.args.head.now (plain_block c.args.body.now) c.args.at) (state_of c.args.st.now)) =
    while_fails (site_of c.args.site.now) (plain_test c.args.test.now) c.args.head.now (plain_block c.args.body.now) c.args.at (state_of c.args.st.now) why c.in_err-turns.ensures.begun in
    search (rules, key)

pub repeat-returns-clause-moved : goal.repeat-returns-clause-moved
repeat-returns-clause-moved t c =
    let turns = turns_of c.in_ok-turns.turns (state_of c.begin_turns.new.st) in
    let goes = while_goes (site_of c.args.site.now) (plain_test c.args.test.now) c.args.head.now (plain_block c.args.body.now) c.args.at (state_of c.args.st.now) turns c.in_ok-turns.ensures.begun in
    rw goes c.turn.ensures.ended

-- ---- a statement of a block

pub block-statement-requires : goal.block-statement-requires
block-statement-requires t c =
    let statements = c.args.statements.now in
    let one = c.one-item.result in
    let size : 5 * block_depth (plain_block statements) + 1 ≡ t = c.decreases in
    let smaller : depth_of (plain_stmt one) ≤ block_depth (plain_block statements) =
    subst (λ s. depth_of (plain_stmt s) ≤ block_depth (plain_block statements)) (sym c.one-item.is) (one_depth statements c.loop-one.one-index one (omega arith)) in
    (omega (arith, size, smaller), c.requires)
