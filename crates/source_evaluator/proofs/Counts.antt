-- How many operands a list of expressions has.
use Rattle.std.proofs.Common.{◌≡◌, ℕ, suc, List, [], ◌∷◌, length, map, refl, ap}
use Rattle.xanadu_tree.specs.PlainOf.{plain_expr, to_exprs}
use Rattle.xanadu_tree.specs.declared.expr.CoreExpr.{CoreExpr}
use Rattle.source_evaluator.specs.Steps.{count_of}

pub counted : (es : List CoreExpr) → count_of (to_exprs (map plain_expr es)) ≡ length es
unfolding count_of
counted [] = refl
counted (e ∷ es) = ap suc (counted es)
