-- From a tree in memory to its plain tree.
use Rattle.std.specs.Prelude.{ℕ, List, [], ◌∷◌, map}
use Rattle.std.specs.Option.{option_map}
use Rattle.xanadu_tree.specs.declared.expr.Op.{Op}
use Rattle.xanadu_tree.specs.declared.expr.CoreExpr.{CoreExpr}
use Rattle.xanadu_tree.specs.declared.expr.CoreExpr.TheOpen as open_expr
use Rattle.xanadu_tree.specs.declared.expr.CoreExpr.TheFolds.{fold-CoreExpr}
use Rattle.xanadu_tree.specs.declared.stmt.Test.{Test}
use Rattle.xanadu_tree.specs.declared.stmt.Test.TheOpen as open_test
use Rattle.xanadu_tree.specs.declared.stmt.Test.TheFolds.{fold-Test}
use Rattle.xanadu_tree.specs.declared.stmt.CoreStmt.{CoreStmt}
use Rattle.xanadu_tree.specs.declared.stmt.CoreStmt.TheOpen as open_stmt
use Rattle.xanadu_tree.specs.declared.stmt.CoreStmt.TheFolds.{fold-CoreStmt}
use Rattle.xanadu_tree.specs.declared.program.CoreFun.{CoreFun}
use Rattle.xanadu_tree.specs.declared.types.Packing.{Packing}
use Rattle.xanadu_tree.specs.Plain as plain

-- the parts of a list, as the tree's own list

abbrev pub to_exprs : List plain.Expr → plain.Exprs
to_exprs [] = plain.NoExpr
to_exprs (e ∷ es) = plain.AnExpr e (to_exprs es)

abbrev pub to_links : List (Op × plain.Expr × ℕ) → plain.Links
to_links [] = plain.NoLink
to_links (l ∷ ls) = plain.ALink l.0 l.1 l.2 (to_links ls)

abbrev pub to_tests : List plain.Test → plain.Tests
to_tests [] = plain.NoTest
to_tests (t ∷ ts) = plain.ATest t (to_tests ts)

abbrev pub to_stmts : List plain.Stmt → plain.Stmts
to_stmts [] = plain.NoStmt
to_stmts (s ∷ ss) = plain.AStmt s (to_stmts ss)

-- one node, with the plain tree of each child in its place

abbrev pub expr_step : open_expr.CoreExpr-F plain.Expr → plain.Expr
expr_step (open_expr.Int n) = plain.Int n
expr_step (open_expr.Bool b) = plain.Bool b
expr_step (open_expr.Var x) = plain.Var x
expr_step (open_expr.Neg e) = plain.Neg e.value
expr_step (open_expr.Chain first rest) = plain.Chain first.value (to_links rest.items)
expr_step (open_expr.Compare rel a b) = plain.Compare rel a.value b.value
expr_step (open_expr.Index a i at) = plain.Index a.value i.value at
expr_step (open_expr.Len a) = plain.Len a.value
expr_step (open_expr.Call f args at) = plain.Call f (to_exprs args.items) at
expr_step (open_expr.Make ty args at) = plain.Make ty (to_exprs args.items) at
expr_step (open_expr.New ty len fill at) = plain.New ty len.value fill.value at

unfoldable pub plain_expr : CoreExpr → plain.Expr
plain_expr = fold-CoreExpr plain.Expr expr_step

abbrev pub test_step : open_test.Test-F plain.Test → plain.Test
test_step (open_test.Leaf e) = plain.Leaf (plain_expr e)
test_step (open_test.All parts) = plain.All (to_tests parts.items)
test_step (open_test.Any parts) = plain.Any (to_tests parts.items)
test_step (open_test.Not part) = plain.Not part.value

unfoldable pub plain_test : Test → plain.Test
plain_test = fold-Test plain.Test test_step

abbrev pub stmt_step : open_stmt.CoreStmt-F plain.Stmt → plain.Stmt
stmt_step (open_stmt.Set x e) = plain.Set x (plain_expr e)
stmt_step (open_stmt.Split xs e at) = plain.Split xs (plain_expr e) at
stmt_step (open_stmt.Store a i e at) = plain.Store (plain_expr a) (plain_expr i) (plain_expr e) at
stmt_step (open_stmt.Do e) = plain.Do (plain_expr e)
stmt_step (open_stmt.Print e) = plain.Print (plain_expr e)
stmt_step (open_stmt.If test on_true on_false join at) =
    plain.If (plain_test test) (to_stmts on_true.items) (to_stmts on_false.items) join at
stmt_step (open_stmt.While test head body at) = plain.While (plain_test test) head (to_stmts body.items) at
stmt_step (open_stmt.Return e at) = plain.Return (option_map plain_expr e) at

unfoldable pub plain_stmt : CoreStmt → plain.Stmt
plain_stmt = fold-CoreStmt plain.Stmt stmt_step

abbrev pub plain_block : List CoreStmt → plain.Stmts
plain_block block = to_stmts (map plain_stmt block)

abbrev pub plain_fun : CoreFun → plain.Fun
plain_fun f = record {
  name = f.name;
  quant = f.quant;
  params = f.params;
  result_quant = f.result_quant;
  result = f.result;
  kinds = f.kinds;
  body = plain_block f.body.items;
  at = f.at;
}

-- the parts of a core
pub record CoreParts : Type 0 where
  pub types : List Packing
  pub funs : List CoreFun
  pub main : ℕ

abbrev pub plain_core : CoreParts → plain.Program
plain_core core = record { types = core.types; funs = map plain_fun core.funs; main = core.main }
