-- Expressions: the type of each, and what it demands. Operands come first, from left to right, and then the construct, which has the rule of
-- its operation.
use Rattle.std.specs.Prelude.{List, [], ◌∷◌, ◌++◌, Some, None, Ok}
use Rattle.xan_lin.specs.Subst.{zero_form}
use Rattle.state_types.specs.Answers.{◌>>=◌}
use Rattle.state_types.specs.PlaceTypes.{type_at}
use Rattle.state_types.specs.declared.types.Ty.{Ty}
use Rattle.state_types.specs.declared.types.Ty.TheVariants as ty
use Rattle.operation_rules.specs.declared.operation.Operation.TheVariants as operation
use Rattle.xanadu_tree.specs.Plain as core
use Rattle.typed_core.specs.Constructs.{type_by}
use Rattle.typed_core.specs.Limits.{Walk}
use Rattle.typed_core.specs.Operators.{operation_of, demands_at, comparison_of, in_order}
use Rattle.typed_core.specs.States.{Site, State, there}

module _ (site : Site) where
  unfoldable mutual
    pub operand : core.Expr → State → Walk (Ty × State)
    operand (core.Int n) st = type_by site None (operation.Literal n) [] st
    operand (core.Bool b) st = type_by site None (operation.Truth b) [] st
    operand (core.Var x) st = do
      t ← there (type_at x st.types)
      Ok (t, st)
    -- 0 less the number
    operand (core.Neg e) st = do
      (t, more) ← operand e st
      type_by site None operation.Sub (ty.Int zero_form ∷ t ∷ []) more
    operand (core.Chain first rest) st = do
      (t, more) ← operand first st
      chained rest t more
    operand (core.Compare rel left right) st = do
      (t, one) ← operand left st
      (u, two) ← operand right one
      type_by site None (operation.Compare (comparison_of rel)) (in_order rel t u) two
    operand (core.Index array index at) st = do
      (t, one) ← operand array st
      (u, two) ← operand index one
      type_by site (Some at) operation.Load (t ∷ u ∷ []) two
    operand (core.Len array) st = do
      (t, more) ← operand array st
      type_by site None operation.Length (t ∷ []) more
    operand (core.Call fun args at) st = do
      (types, more) ← operands args [] st
      type_by site (Some at) (operation.Call fun) types more
    operand (core.Make number args at) st = do
      (types, more) ← operands args [] st
      type_by site (Some at) (operation.Tuple number) types more
    operand (core.New element len fill at) st = do
      (t, one) ← operand len st
      (u, two) ← operand fill one
      type_by site (Some at) (operation.New element) (t ∷ u ∷ []) two

    -- the types of operands, behind those so far
    pub operands : core.Exprs → List Ty → State → Walk (List Ty × State)
    operands core.NoExpr types st = Ok (types, st)
    operands (core.AnExpr e es) types st = do
      (t, more) ← operand e st
      operands es (types ++ t ∷ []) more

    -- the operators of a chain, with the type of all that stands before them
    pub chained : core.Links → Ty → State → Walk (Ty × State)
    chained core.NoLink t st = Ok (t, st)
    chained (core.ALink op e at others) t st = do
      (u, one) ← operand e st
      (v, two) ← type_by site (demands_at op at) (operation_of op) (t ∷ u ∷ []) one
      chained others v two
