-- How the operators of a chain are seen.
use Rattle.std.specs.Prelude.{ℕ}
use Rattle.xanadu_tree.specs.Plain as core
use Rattle.xanadu_tree.specs.PlainOf.{plain_expr}
use Rattle.xanadu_tree.specs.declared.expr.CoreExpr.{CoreExpr}
use Rattle.xanadu_tree.specs.declared.expr.Op.{Op}

-- an operator of a chain, with its right operand and its place
abbrev pub link_of : Op × CoreExpr × ℕ → Op × core.Expr × ℕ
link_of l = (l.0, plain_expr l.1, l.2)
