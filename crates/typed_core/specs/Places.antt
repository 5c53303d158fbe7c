-- How many places a function has: one for each variable, and the temporaries t0, t1, .. that operands are put into.
--
-- An operand that is a variable stays in its own place. Any other is computed at a depth d, and its value is put into td; temporaries
-- before td hold what waits. A temporary is named where something is written into it. Each count here is of temporaries from t0 up to
-- the last one named.
use Rattle.std.specs.Prelude.{ℕ, suc, ◌+◌, max, Bool as Truth, true, false, length, Option, Some, None}
use Rattle.xanadu_tree.specs.Plain as core

-- whether the operand is put into a temporary
abbrev pub is_put : core.Expr → Truth
is_put (core.Var x) = false
is_put e = true

-- the next depth behind an operand
abbrev pub behind : core.Expr → ℕ → ℕ
behind (core.Var x) d = d
behind e d = suc d

-- where the next operand of a chain is computed: the left side is in td, or it is a variable
abbrev pub next_to : Truth → ℕ → ℕ
next_to true d = suc d
next_to false d = d

-- the result of an operator in a chain at depth d goes to td, but the last one goes to where the whole is wanted
abbrev pub result_put : core.Links → ℕ → ℕ
result_put core.NoLink d = 0
result_put (core.ALink op e at others) d = suc d

-- an operand at depth d for which so many are named as its value is computed
abbrev pub put : core.Expr → ℕ → ℕ → ℕ
put (core.Var x) d named = 0
put e d named = max (suc d) named

unfoldable mutual
  -- the value of an expression at depth d, but for the place where it is wanted
  pub named_by : core.Expr → ℕ → ℕ
  named_by (core.Int n) d = 0
  named_by (core.Bool b) d = 0
  named_by (core.Var x) d = 0
  named_by (core.Neg e) d = max (suc d) (put e (suc d) (named_by e (suc d)))
  named_by (core.Chain first rest) d = max (put first d (named_by first d)) (named_by_links rest (is_put first) d)
  named_by (core.Compare rel left right) d =
      max (put left d (named_by left d)) (put right (behind left d) (named_by right (behind left d)))
  named_by (core.Index array index at) d =
      max (put array d (named_by array d)) (put index (behind array d) (named_by index (behind array d)))
  named_by (core.Len array) d = put array d (named_by array d)
  named_by (core.Call fun args at) d = named_by_operands args d
  named_by (core.Make ty args at) d = named_by_operands args d
  named_by (core.New ty len fill at) d =
      max (put len d (named_by len d)) (put fill (behind len d) (named_by fill (behind len d)))

  -- operands in order
  pub named_by_operands : core.Exprs → ℕ → ℕ
  named_by_operands core.NoExpr d = 0
  named_by_operands (core.AnExpr e es) d = max (put e d (named_by e d)) (named_by_operands es (behind e d))

  -- the operators of a chain, whose left side is in td or is a variable
  pub named_by_links : core.Links → Truth → ℕ → ℕ
  named_by_links core.NoLink left d = 0
  named_by_links (core.ALink op e at others) left d =
      max (put e (next_to left d) (named_by e (next_to left d))) (max (result_put others d) (named_by_links others true d))

-- an operand at depth d
abbrev pub operand_named : core.Expr → ℕ → ℕ
operand_named e d = put e d (named_by e d)

-- a comparison jumps on its operands, and any other leaf on its value
abbrev pub leaf_named : core.Expr → ℕ
leaf_named (core.Compare rel left right) = named_by (core.Compare rel left right) 0
leaf_named e = operand_named e 0

unfoldable mutual
  pub test_named : core.Test → ℕ
  test_named (core.Leaf e) = leaf_named e
  test_named (core.All parts) = tests_named parts
  test_named (core.Any parts) = tests_named parts
  test_named (core.Not part) = test_named part

  pub tests_named : core.Tests → ℕ
  tests_named core.NoTest = 0
  tests_named (core.ATest t ts) = max (test_named t) (tests_named ts)

-- a `return` without a value puts 0 into t0
abbrev pub return_named : Option core.Expr → ℕ
return_named None = 1
return_named (Some e) = operand_named e 0

unfoldable mutual
  pub statement_named : core.Stmt → ℕ
  statement_named (core.Set x e) = named_by e 0
  statement_named (core.Split xs e at) = operand_named e 0
  statement_named (core.Store array index e at) = named_by_operands (core.AnExpr array (core.AnExpr index (core.AnExpr e core.NoExpr))) 0
  -- what a call gives goes to t0
  statement_named (core.Do call) = max 1 (named_by call 0)
  statement_named (core.Print e) = operand_named e 0
  statement_named (core.If test on_true on_false join at) = max (test_named test) (max (statements_named on_true) (statements_named on_false))
  statement_named (core.While test head body at) = max (test_named test) (statements_named body)
  statement_named (core.Return value at) = return_named value

  pub statements_named : core.Stmts → ℕ
  statements_named core.NoStmt = 0
  statements_named (core.AStmt s ss) = max (statement_named s) (statements_named ss)

abbrev pub places_of : core.Fun → ℕ
places_of f = length f.kinds + statements_named f.body
