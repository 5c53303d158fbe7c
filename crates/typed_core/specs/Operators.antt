-- Which operations operators and relations are.
use Rattle.std.specs.Prelude.{ℕ, List, [], ◌∷◌, Option, Some, None}
use Rattle.operation_rules.specs.declared.operation.Operation.{Operation}
use Rattle.operation_rules.specs.declared.operation.Operation.TheVariants.{Add, Sub, Mul, Div, Mod}
use Rattle.state_types.specs.declared.types.Ty.{Ty}
use Rattle.xanadu_tree.specs.declared.expr.Op.{Op}
use Rattle.xanadu_tree.specs.declared.expr.Op.TheVariants as op
use Rattle.xanadu_tree.specs.declared.expr.Rel.{Rel}
use Rattle.xanadu_tree.specs.declared.expr.Rel.TheVariants as rel

abbrev pub operation_of : Op → Operation
operation_of op.Add = Add
operation_of op.Sub = Sub
operation_of op.Mul = Mul
operation_of op.Div = Div
operation_of op.Mod = Mod

-- where it is noted what an operator demands: the others demand nothing
abbrev pub demands_at : Op → (at : ℕ) → Option ℕ
demands_at op.Add at = None
demands_at op.Sub at = None
demands_at op.Mul at = None
demands_at op.Div at = Some at
demands_at op.Mod at = Some at

-- `a > b` is `b < a`, and `a >= b` is `b <= a`
abbrev pub comparison_of : Rel → ℕ
comparison_of rel.Lt = 0
comparison_of rel.Le = 1
comparison_of rel.Gt = 0
comparison_of rel.Ge = 1
comparison_of rel.Eq = 2
comparison_of rel.Ne = 3

-- the types of the two sides, as the comparison takes them
abbrev pub in_order : Rel → (left right : Ty) → List Ty
in_order rel.Lt left right = left ∷ right ∷ []
in_order rel.Le left right = left ∷ right ∷ []
in_order rel.Gt left right = right ∷ left ∷ []
in_order rel.Ge left right = right ∷ left ∷ []
in_order rel.Eq left right = left ∷ right ∷ []
in_order rel.Ne left right = left ∷ right ∷ []
