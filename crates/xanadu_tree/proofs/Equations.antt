-- The plain tree of each kind of node, by the plain trees of its children.
use Rattle.std.proofs.Common.{◌≡◌, ℕ, ℤ, Bool as Truth, List, map, Option, rules}
use Rattle.std.specs.Prelude.{Vec, Box}
use Rattle.std.specs.Option.{option_map}
use Rattle.std.specs.declared.alloc.Global.{Global}
use Rattle.xanadu_tree.specs.declared.expr.Op.{Op}
use Rattle.xanadu_tree.specs.declared.expr.Rel.{Rel}
use Rattle.xanadu_tree.specs.declared.expr.CoreExpr.{CoreExpr}
use Rattle.xanadu_tree.specs.declared.expr.CoreExpr.TheVariants as expr
use Rattle.xanadu_tree.specs.declared.expr.CoreExpr.TheFolds.{the_lemmas as expr_folds}
use Rattle.xanadu_tree.specs.declared.stmt.Clause.{Clause}
use Rattle.xanadu_tree.specs.declared.stmt.Test.{Test}
use Rattle.xanadu_tree.specs.declared.stmt.Test.TheVariants as test
use Rattle.xanadu_tree.specs.declared.stmt.Test.TheFolds.{the_lemmas as test_folds}
use Rattle.xanadu_tree.specs.declared.stmt.CoreStmt.{CoreStmt}
use Rattle.xanadu_tree.specs.declared.stmt.CoreStmt.TheVariants as stmt
use Rattle.xanadu_tree.specs.declared.stmt.CoreStmt.TheFolds.{the_lemmas as stmt_folds}
use Rattle.xanadu_tree.specs.Plain as plain
use Rattle.xanadu_tree.specs.PlainOf.{to_exprs, to_links, to_tests, plain_expr, plain_test, plain_stmt, plain_block}

pub plain_expr-Int : (n : ℤ) → plain_expr (expr.Int n) ≡ plain.Int n
unfolding plain_expr
plain_expr-Int n = search (rules, expr_folds)

pub plain_expr-Bool : (b : Truth) → plain_expr (expr.Bool b) ≡ plain.Bool b
unfolding plain_expr
plain_expr-Bool b = search (rules, expr_folds)

pub plain_expr-Var : (x : ℕ) → plain_expr (expr.Var x) ≡ plain.Var x
unfolding plain_expr
plain_expr-Var x = search (rules, expr_folds)

pub plain_expr-Neg : (e : Box CoreExpr Global) → plain_expr (expr.Neg e) ≡ plain.Neg (plain_expr e.value)
unfolding plain_expr
plain_expr-Neg e = search (rules, expr_folds)

pub plain_expr-Chain : (first : Box CoreExpr Global) (rest : Vec (Op × CoreExpr × ℕ) Global) → plain_expr (expr.Chain first rest) ≡ plain.Chain (plain_expr first.value) (to_links (map (λ l. (l.0, plain_expr l.1, l.2)) rest.items))
unfolding plain_expr
plain_expr-Chain first rest = search (rules, expr_folds)

pub plain_expr-Compare : (rel : Rel) (a : Box CoreExpr Global) (b : Box CoreExpr Global) → plain_expr (expr.Compare rel a b) ≡ plain.Compare rel (plain_expr a.value) (plain_expr b.value)
unfolding plain_expr
plain_expr-Compare rel a b = search (rules, expr_folds)

pub plain_expr-Index : (a : Box CoreExpr Global) (i : Box CoreExpr Global) (at : ℕ) → plain_expr (expr.Index a i at) ≡ plain.Index (plain_expr a.value) (plain_expr i.value) at
unfolding plain_expr
plain_expr-Index a i at = search (rules, expr_folds)

pub plain_expr-Len : (a : Box CoreExpr Global) → plain_expr (expr.Len a) ≡ plain.Len (plain_expr a.value)
unfolding plain_expr
plain_expr-Len a = search (rules, expr_folds)

pub plain_expr-Call : (fun : ℕ) (args : Vec CoreExpr Global) (at : ℕ) → plain_expr (expr.Call fun args at) ≡ plain.Call fun (to_exprs (map plain_expr args.items)) at
unfolding plain_expr
plain_expr-Call fun args at = search (rules, expr_folds)

pub plain_expr-Make : (ty : ℕ) (args : Vec CoreExpr Global) (at : ℕ) → plain_expr (expr.Make ty args at) ≡ plain.Make ty (to_exprs (map plain_expr args.items)) at
unfolding plain_expr
plain_expr-Make ty args at = search (rules, expr_folds)

pub plain_expr-New : (ty : ℕ) (len : Box CoreExpr Global) (fill : Box CoreExpr Global) (at : ℕ) → plain_expr (expr.New ty len fill at) ≡ plain.New ty (plain_expr len.value) (plain_expr fill.value) at
unfolding plain_expr
plain_expr-New ty len fill at = search (rules, expr_folds)

pub plain_test-Leaf : (e : CoreExpr) → plain_test (test.Leaf e) ≡ plain.Leaf (plain_expr e)
unfolding plain_test
plain_test-Leaf e = search (rules, test_folds)

pub plain_test-All : (parts : Vec Test Global) → plain_test (test.All parts) ≡ plain.All (to_tests (map plain_test parts.items))
unfolding plain_test
plain_test-All parts = search (rules, test_folds)

pub plain_test-Any : (parts : Vec Test Global) → plain_test (test.Any parts) ≡ plain.Any (to_tests (map plain_test parts.items))
unfolding plain_test
plain_test-Any parts = search (rules, test_folds)

pub plain_test-Not : (part : Box Test Global) → plain_test (test.Not part) ≡ plain.Not (plain_test part.value)
unfolding plain_test
plain_test-Not part = search (rules, test_folds)

pub plain_stmt-Set : (x : ℕ) (e : CoreExpr) → plain_stmt (stmt.Set x e) ≡ plain.Set x (plain_expr e)
unfolding plain_stmt
plain_stmt-Set x e = search (rules, stmt_folds)

pub plain_stmt-Split : (xs : List ℕ) (e : CoreExpr) (at : ℕ) → plain_stmt (stmt.Split xs e at) ≡ plain.Split xs (plain_expr e) at
unfolding plain_stmt
plain_stmt-Split xs e at = search (rules, stmt_folds)

pub plain_stmt-Store : (a : CoreExpr) (i : CoreExpr) (e : CoreExpr) (at : ℕ) → plain_stmt (stmt.Store a i e at) ≡ plain.Store (plain_expr a) (plain_expr i) (plain_expr e) at
unfolding plain_stmt
plain_stmt-Store a i e at = search (rules, stmt_folds)

pub plain_stmt-Do : (e : CoreExpr) → plain_stmt (stmt.Do e) ≡ plain.Do (plain_expr e)
unfolding plain_stmt
plain_stmt-Do e = search (rules, stmt_folds)

pub plain_stmt-Print : (e : CoreExpr) → plain_stmt (stmt.Print e) ≡ plain.Print (plain_expr e)
unfolding plain_stmt
plain_stmt-Print e = search (rules, stmt_folds)

pub plain_stmt-If : (test : Test) (on_true : Vec CoreStmt Global) (on_false : Vec CoreStmt Global) (join : Option Clause) (at : ℕ) → plain_stmt (stmt.If test on_true on_false join at) ≡ plain.If (plain_test test) (plain_block on_true.items) (plain_block on_false.items) join at
unfolding plain_stmt
plain_stmt-If test on_true on_false join at = search (rules, stmt_folds)

pub plain_stmt-While : (test : Test) (head : Option Clause) (body : Vec CoreStmt Global) (at : ℕ) → plain_stmt (stmt.While test head body at) ≡ plain.While (plain_test test) head (plain_block body.items) at
unfolding plain_stmt
plain_stmt-While test head body at = search (rules, stmt_folds)

pub plain_stmt-Return : (value : Option CoreExpr) (at : ℕ) → plain_stmt (stmt.Return value at) ≡ plain.Return (option_map plain_expr value) at
unfolding plain_stmt
plain_stmt-Return value at = search (rules, stmt_folds)

-- the equations of all kinds of nodes
pub ruleset plain_trees = (plain_expr-Int, plain_expr-Bool, plain_expr-Var, plain_expr-Neg, plain_expr-Chain, plain_expr-Compare, plain_expr-Index, plain_expr-Len, plain_expr-Call, plain_expr-Make, plain_expr-New, plain_test-Leaf, plain_test-All, plain_test-Any, plain_test-Not, plain_stmt-Set, plain_stmt-Split, plain_stmt-Store, plain_stmt-Do, plain_stmt-Print, plain_stmt-If, plain_stmt-While, plain_stmt-Return)
