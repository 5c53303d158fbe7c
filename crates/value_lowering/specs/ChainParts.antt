-- What contracts see of the operators of a chain.
use Rattle.std.specs.Prelude.{ℕ, ◌==◌, cond}
use Rattle.xanadu_tree.specs.declared.expr.CoreExpr.{CoreExpr}
use Rattle.xanadu_tree.specs.declared.expr.Op.{Op}
use Rattle.xanadu_tree.specs.Plain as core
use Rattle.xanadu_tree.specs.PlainOf.{plain_expr}

-- an operator of a chain, with its right operand and its place
abbrev pub link_of : Op × CoreExpr × ℕ → Op × core.Expr × ℕ
link_of l = (l.0, plain_expr l.1, l.2)

-- where the result of an operator goes that has so many others behind it
abbrev pub result_of : (many between wanted : ℕ) → ℕ
result_of many between wanted = cond (many == 0) wanted between
