-- Statements and blocks: from the state before each to the one behind it.
use Rattle.std.specs.Prelude.{ℕ, Bool as Truth, true, false, ◌||◌, List, [], ◌∷◌, length, Option, Some, None, Ok, Err}
use Rattle.xan_lin.specs.Linear.{Linear}
use Rattle.xan_lin.specs.Subst.{zero_form}
use Rattle.state_types.specs.Answers.{◌>>=◌}
use Rattle.state_types.specs.declared.state.StateType.{StateType}
use Rattle.state_types.specs.declared.types.Ty.{Ty}
use Rattle.state_types.specs.declared.types.Ty.TheVariants as ty
use Rattle.operation_rules.specs.declared.operation.Operation.TheVariants.{Untuple, Store, Print, Return}
use Rattle.xanadu_tree.specs.declared.stmt.Clause.{Clause}
use Rattle.xanadu_tree.specs.BodyRules.{completes_all}
use Rattle.xanadu_tree.specs.Plain as core
use Rattle.typed_core.specs.Constructs.{types_by, state_by}
use Rattle.typed_core.specs.Joins.{changes_any, stated, joined, entered, entered_if, still_visible}
use Rattle.typed_core.specs.Limits.{Walk, Misfit}
use Rattle.typed_core.specs.Operands.{operand}
use Rattle.typed_core.specs.States.{Site, State, point, resuming, noting_state, as_tuple, given}
use Rattle.typed_core.specs.Tests.{tested, on_side}

-- ---- statements without blocks

unfoldable pub assigned : Site → ℕ → core.Expr → State → Walk State
assigned site x e st = do
  (t, more) ← operand site e st
  given x t more

-- as many variables as parts
unfoldable pub all_given : List ℕ → List Ty → State → Walk State
all_given [] [] st = Ok st
all_given [] (t ∷ ts) st = Err Misfit
all_given (x ∷ xs) [] st = Err Misfit
all_given (x ∷ xs) (t ∷ ts) st = do
  more ← given x t st
  all_given xs ts more

unfoldable pub split : Site → List ℕ → core.Expr → State → Walk State
split site xs e st = do
  (t, one) ← operand site e st
  number ← as_tuple t
  (parts, two) ← types_by site None (Untuple number (length xs)) (t ∷ []) one
  all_given xs parts two

-- the index is within the length, and the value is one of a cell
unfoldable pub store : Site → (array index value : core.Expr) → (at : ℕ) → State → Walk State
store site array index value at st = do
  (t, one) ← operand site array st
  (u, two) ← operand site index one
  (v, three) ← operand site value two
  state_by site (Some at) Store (t ∷ u ∷ v ∷ []) three

unfoldable pub done : Site → core.Expr → State → Walk State
done site call st = do
  (t, more) ← operand site call st
  Ok more

unfoldable pub printed : Site → core.Expr → State → Walk State
printed site e st = do
  (t, more) ← operand site e st
  state_by site None Print (t ∷ []) more

-- without a value the number 0 is returned
unfoldable pub returning : Site → Option core.Expr → (at : ℕ) → State → Walk State
returning site None at st = state_by site (Some at) Return (ty.Int zero_form ∷ []) st
returning site (Some e) at st = do
  (t, more) ← operand site e st
  state_by site (Some at) Return (t ∷ []) more

-- ---- where branches meet

-- the end of a branch goes on, over all index variables so far
abbrev pub going_on : (before end : StateType) → (latest : State) → State
going_on before end latest =
    let st = resuming end.ctx.rows (still_visible before.places end.places) latest in
    noting_state st.ctx.rows st

-- what the branches end with, and whether they complete
pub record Branches : Type 0 where
  pub one : StateType
  pub two : StateType
  pub one_completes : Truth
  pub two_completes : Truth

unfoldable pub meeting : Site → (at : ℕ) → Clause → (changed : ℕ → Truth) → (before : StateType) → Branches → (latest : State) → Walk State
meeting site at clause changed before ends latest = do
  (joint, start) ← joined site clause changed before latest
  first ← entered_if ends.one_completes site at joint ends.one start
  entered_if ends.two_completes site at joint ends.two first

-- Where neither completes, nothing follows. Where one does and nothing is stated, its end goes on. Else they meet. The second branch ends
-- here.
unfoldable pub after_branches : (one_completes two_completes : Truth) → Option Clause → Site → (at : ℕ) → (changed : ℕ → Truth) → (before one : StateType)
    → (two : State) → Walk State
after_branches false false join site at changed before one two = Ok (resuming before.ctx.rows before.places two)
after_branches true false None site at changed before one two = Ok (going_on before one two)
after_branches false true None site at changed before one two = Ok (going_on before (point two) two)
after_branches one_completes two_completes join site at changed before one two =
    meeting site at (stated join) changed before (record { one = one; two = point two; one_completes = one_completes; two_completes = two_completes }) two

-- where the second branch begins, behind the first
abbrev pub other_branch : (rows : List Linear) → (before one : State) → State
other_branch rows before one = let st = resuming rows before.types one in noting_state rows st

module _ (site : Site) where
  unfoldable mutual
    pub statement : core.Stmt → State → Walk State
    statement (core.Set x e) st = assigned site x e st
    statement (core.Split xs e at) st = split site xs e st
    statement (core.Store array index e at) st = store site array index e at st
    statement (core.Do call) st = done site call st
    statement (core.Print e) st = printed site e st
    statement (core.If test on_true on_false join at) st = do
      sides ← tested site test st
      one ← block on_true (on_side sides.on_true sides.after)
      two ← block on_false (other_branch sides.on_false st one)
      after_branches (completes_all on_true) (completes_all on_false) join site at (λ x. changes_any on_true x || changes_any on_false x) (point st) (point one) two
    statement (core.While test head body at) st = do
      (joint, start) ← joined site (stated head) (changes_any body) (point st) st
      begun ← entered site at joint (point st) start
      sides ← tested site test begun
      turn ← block body (on_side sides.on_true sides.after)
      back ← entered_if (completes_all body) site at joint (point turn) turn
      Ok (noting_state sides.on_false (resuming sides.on_false start.types back))
    statement (core.Return value at) st = returning site value at st

    pub block : core.Stmts → State → Walk State
    block core.NoStmt st = Ok st
    block (core.AStmt s ss) st = do
      more ← statement s st
      block ss more
