-- What a list leaves to do, by its first element.
use Rattle.std.proofs.Common.{◌≡◌, ◌∙◌, ◌<◌, ◌≤◌, ◌-◌, ℕ, ℤ, List, [], ◌∷◌, length, map, take, drop, get_or, true, false, refl, sym, subst, ap, arith}
use Rattle.std.proofs.lemmas.List.{take_rest}
use Rattle.xanadu_tree.specs.PlainOf.{plain_block, plain_expr, plain_stmt, plain_test, to_exprs, to_links, to_tests}
use Rattle.xanadu_tree.specs.declared.expr.CoreExpr.{CoreExpr}
use Rattle.xanadu_tree.specs.declared.expr.Op.{Op}
use Rattle.xanadu_tree.specs.declared.stmt.CoreStmt.{CoreStmt}
use Rattle.xanadu_tree.specs.declared.stmt.Test.{Test}
use Rattle.source_evaluator.specs.Views.{link_of}
use Rattle.source_values.specs.Values.{truth_value}
use Rattle.source_evaluator.specs.Steps.{Machine, all_parts, any_parts, begun, doing, linked, operands, statements, with_value}
use Rattle.source_evaluator.specs.Work.{Work, Operand, Operands, Links, Join, Decide, WhereTrue, WhereFalse, Statements}

-- ---- expressions

pub no_operands : (es : List CoreExpr) (m : Machine) → length es < 1 → m ≡ operands (to_exprs (map plain_expr es)) m
unfolding operands
no_operands [] m h = refl
no_operands (e ∷ es) m h = absurd (omega (arith, h))

pub first_operand : (es : List CoreExpr) (d : CoreExpr) (m : Machine) → 1 ≤ length es
    → doing (Operand (plain_expr (get_or es 0 d)) ∷ Operands (to_exprs (map plain_expr (take (length es - 1) (drop 1 es)))) ∷ []) m
    ≡ operands (to_exprs (map plain_expr es)) m
unfolding operands
first_operand [] d m h = absurd (omega (arith, h))
first_operand (e ∷ es) d m h =
    ap (λ (xs : List CoreExpr). doing (Operand (plain_expr e) ∷ Operands (to_exprs (map plain_expr xs)) ∷ []) m) (take_rest (e ∷ es) 1)

pub no_links : (ls : List (Op × CoreExpr × ℕ)) (m : Machine) → length ls < 1 → m ≡ linked (to_links (map link_of ls)) m
unfolding linked
no_links [] m h = refl
no_links (l ∷ ls) m h = absurd (omega (arith, h))

pub first_link : (ls : List (Op × CoreExpr × ℕ)) (d : Op × CoreExpr × ℕ) (m : Machine) → 1 ≤ length ls
    → doing (Operand (plain_expr (get_or ls 0 d).1) ∷ Join (get_or ls 0 d).0
    ∷ Links (to_links (map link_of (take (length ls - 1) (drop 1 ls)))) ∷ []) m
    ≡ linked (to_links (map link_of ls)) m
unfolding linked
first_link [] d m h = absurd (omega (arith, h))
first_link (l ∷ ls) d m h =
    ap (λ (xs : List (Op × CoreExpr × ℕ)). doing (Operand (plain_expr l.1) ∷ Join l.0 ∷ Links (to_links (map link_of xs)) ∷ []) m) (take_rest (l ∷ ls) 1)

-- ---- tests

pub no_parts : (ts : List Test) (m : Machine) → length ts < 1 → with_value (truth_value true) m ≡ all_parts (to_tests (map plain_test ts)) m
unfolding all_parts
no_parts [] m h = refl
no_parts (t ∷ ts) m h = absurd (omega (arith, h))

pub first_part : (ts : List Test) (d : Test) (m : Machine) → 1 ≤ length ts
    → doing (Decide (plain_test (get_or ts 0 d)) ∷ WhereTrue (to_tests (map plain_test (take (length ts - 1) (drop 1 ts)))) ∷ []) m
    ≡ all_parts (to_tests (map plain_test ts)) m
unfolding all_parts
first_part [] d m h = absurd (omega (arith, h))
first_part (t ∷ ts) d m h =
    ap (λ (xs : List Test). doing (Decide (plain_test t) ∷ WhereTrue (to_tests (map plain_test xs)) ∷ []) m) (take_rest (t ∷ ts) 1)

pub no_choices : (ts : List Test) (m : Machine) → length ts < 1 → with_value (truth_value false) m ≡ any_parts (to_tests (map plain_test ts)) m
unfolding any_parts
no_choices [] m h = refl
no_choices (t ∷ ts) m h = absurd (omega (arith, h))

pub first_choice : (ts : List Test) (d : Test) (m : Machine) → 1 ≤ length ts
    → doing (Decide (plain_test (get_or ts 0 d)) ∷ WhereFalse (to_tests (map plain_test (take (length ts - 1) (drop 1 ts)))) ∷ []) m
    ≡ any_parts (to_tests (map plain_test ts)) m
unfolding any_parts
first_choice [] d m h = absurd (omega (arith, h))
first_choice (t ∷ ts) d m h =
    ap (λ (xs : List Test). doing (Decide (plain_test t) ∷ WhereFalse (to_tests (map plain_test xs)) ∷ []) m) (take_rest (t ∷ ts) 1)

-- ---- statements

pub no_statements : (ss : List CoreStmt) (m : Machine) → length ss < 1 → m ≡ statements (plain_block ss) m
unfolding statements
no_statements [] m h = refl
no_statements (s ∷ ss) m h = absurd (omega (arith, h))

pub first_statement : (ss : List CoreStmt) (d : CoreStmt) (m : Machine) → 1 ≤ length ss
    → begun (plain_stmt (get_or ss 0 d)) (doing (Statements (plain_block (take (length ss - 1) (drop 1 ss))) ∷ []) m)
    ≡ statements (plain_block ss) m
unfolding statements
first_statement [] d m h = absurd (omega (arith, h))
first_statement (s ∷ ss) d m h =
    ap (λ (xs : List CoreStmt). begun (plain_stmt s) (doing (Statements (plain_block xs) ∷ []) m)) (take_rest (s ∷ ss) 1)

pub block_begun : (ss : List CoreStmt) (d : CoreStmt) (m more new : Machine) → 1 ≤ length ss
    → more ≡ doing (Statements (plain_block (take (length ss - 1) (drop 1 ss))) ∷ []) m → new ≡ begun (plain_stmt (get_or ss 0 d)) more
    → new ≡ statements (plain_block ss) m
block_begun ss d m more new h e f = f ∙ ap (λ (n : Machine). begun (plain_stmt (get_or ss 0 d)) n) e ∙ first_statement ss d m h

pub first_begun : (ss : List CoreStmt) (s : CoreStmt) (m more new : Machine) → 1 ≤ length ss → s ≡ get_or ss 0 s
    → more ≡ doing (Statements (plain_block (take (length ss - 1) (drop 1 ss))) ∷ []) m → new ≡ begun (plain_stmt s) more
    → new ≡ statements (plain_block ss) m
first_begun ss s m more new h is e f = block_begun ss s m more new h e (f ∙ ap (λ (t : CoreStmt). begun (plain_stmt t) more) is)
