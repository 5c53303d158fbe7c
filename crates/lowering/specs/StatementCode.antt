-- The code of statements and blocks, from a position on, and the positions of their labels.
use Rattle.std.specs.Prelude.{ℕ, suc, ◌+◌, pos, Bool as Truth, true, false, ◌&&◌, ◌||◌, List, [], ◌∷◌, ◌++◌, length, Option, Some, None}
use Rattle.xanadu_tree.specs.declared.stmt.Clause.{Clause}
use Rattle.xanadu_tree.specs.BodyRules.{completes_all}
use Rattle.xanadu_tree.specs.Plain as core
use Rattle.typed_core.specs.Places.{behind}
use Rattle.three_address.specs.declared.instruction.LowInstr.{LowInstr}
use Rattle.value_lowering.specs.Frames.{Frame, temporary, operand_place, tuple_number}
use Rattle.value_lowering.specs.OneInstruction.{Aim, literal, stored, parted, printed, jump, returned, one_if, jump_if, label_if}
use Rattle.lowering.specs.TestCode.{test_size, test_code, test_labels}
use Rattle.value_lowering.specs.ValueCode.{value_size, value_code, operand_at, size_at}

-- ---- where branches meet

abbrev pub is_stated : Option Clause → Truth
is_stated None = false
is_stated (Some clause) = true

-- whether there is a label behind both branches
abbrev pub meet : (on_true on_false : core.Stmts) → Option Clause → Truth
meet on_true on_false join = completes_all on_true || (is_stated join && completes_all on_false)

-- whether the second branch jumps there
abbrev pub jumps : (on_true on_false : core.Stmts) → Option Clause → Truth
jumps on_true on_false join = completes_all on_false && meet on_true on_false join

-- ---- how many instructions

abbrev pub return_size : Option core.Expr → ℕ
return_size None = 2
return_size (Some e) = size_at e + 1

unfoldable mutual
  pub statement_size : core.Stmt → ℕ
  statement_size (core.Set x e) = value_size e
  statement_size (core.Split xs e at) = size_at e + 1
  statement_size (core.Store array index e at) = size_at array + (size_at index + (size_at e + 1))
  statement_size (core.Do call) = value_size call
  statement_size (core.Print e) = size_at e + 1
  statement_size (core.If test on_true on_false join at) =
      test_size false test + (block_size on_true + (one_if (completes_all on_true) + (block_size on_false + one_if (jumps on_true on_false join))))
  statement_size (core.While test head body at) = suc (test_size false test + (block_size body + one_if (completes_all body)))
  statement_size (core.Return value at) = return_size value

  pub block_size : core.Stmts → ℕ
  block_size core.NoStmt = 0
  block_size (core.AStmt s ss) = statement_size s + block_size ss

-- ---- positions within an `if` and within a loop

-- of its branches, and of what stands behind them
abbrev pub first_at : core.Test → (at : ℕ) → ℕ
first_at test at = at + test_size false test

abbrev pub second_at : core.Test → (on_true : core.Stmts) → (at : ℕ) → ℕ
second_at test on_true at = first_at test at + block_size on_true + one_if (completes_all on_true)

abbrev pub meet_at : core.Test → (on_true on_false : core.Stmts) → Option Clause → (at : ℕ) → ℕ
meet_at test on_true on_false join at =
    second_at test on_true at + block_size on_false + one_if (jumps on_true on_false join)

-- behind a loop, which begins with a jump to its head
abbrev pub behind_loop : core.Test → (body : core.Stmts) → (at : ℕ) → ℕ
behind_loop test body at = first_at test (suc at) + block_size body + one_if (completes_all body)

-- to a position where a test is false
abbrev pub unless : (to : ℕ) → Aim
unless to = record { on = false; to = to }

-- ---- code

abbrev pub return_code : (vars : ℕ) → Option core.Expr → List LowInstr
return_code vars None = literal (temporary vars 0) (pos 0) ∷ returned (temporary vars 0) ∷ []
return_code vars (Some e) = operand_at vars e 0 ++ returned (operand_place vars e 0) ∷ []

abbrev pub store_code : (vars : ℕ) → (array index value : core.Expr) → List LowInstr
store_code vars array index e =
    operand_at vars array 0 ++ (operand_at vars index (behind array 0) ++ (operand_at vars e (behind index (behind array 0))
    ++ stored (operand_place vars array 0) (operand_place vars index (behind array 0)) (operand_place vars e (behind index (behind array 0))) ∷ []))

module _ (frame : Frame) where
  unfoldable mutual
    pub statement_code : core.Stmt → (at : ℕ) → List LowInstr
    statement_code (core.Set x e) at = value_code (length frame.kinds) e 0 x
    statement_code (core.Split xs e a) at =
        operand_at (length frame.kinds) e 0 ++ parted (tuple_number frame e) (operand_place (length frame.kinds) e 0) xs ∷ []
    statement_code (core.Store array index e a) at = store_code (length frame.kinds) array index e
    statement_code (core.Do call) at = value_code (length frame.kinds) call 0 (temporary (length frame.kinds) 0)
    statement_code (core.Print e) at = operand_at (length frame.kinds) e 0 ++ printed (operand_place (length frame.kinds) e 0) ∷ []
    statement_code (core.If test on_true on_false join a) at =
        test_code (length frame.kinds) (unless (second_at test on_true at)) test at
        ++ (block_code on_true (first_at test at)
        ++ (jump_if (completes_all on_true) (meet_at test on_true on_false join at)
        ++ (block_code on_false (second_at test on_true at)
        ++ jump_if (jumps on_true on_false join) (meet_at test on_true on_false join at))))
    statement_code (core.While test head body a) at =
        jump (suc at)
        ∷ (test_code (length frame.kinds) (unless (behind_loop test body at)) test (suc at)
        ++ (block_code body (first_at test (suc at))
        ++ jump_if (completes_all body) (suc at)))
    statement_code (core.Return value a) at = return_code (length frame.kinds) value

    pub block_code : core.Stmts → (at : ℕ) → List LowInstr
    block_code core.NoStmt at = []
    block_code (core.AStmt s ss) at = statement_code s at ++ block_code ss (at + statement_size s)

-- ---- positions of labels

unfoldable mutual
  pub statement_labels : core.Stmt → (at : ℕ) → List ℕ
  statement_labels (core.Set x e) at = []
  statement_labels (core.Split xs e a) at = []
  statement_labels (core.Store array index e a) at = []
  statement_labels (core.Do call) at = []
  statement_labels (core.Print e) at = []
  statement_labels (core.If test on_true on_false join a) at =
      test_labels false test at
      ++ (block_labels on_true (first_at test at)
      ++ (second_at test on_true at
      ∷ (block_labels on_false (second_at test on_true at)
      ++ label_if (meet on_true on_false join) (meet_at test on_true on_false join at))))
  statement_labels (core.While test head body a) at =
      suc at
      ∷ (test_labels false test (suc at)
      ++ (block_labels body (first_at test (suc at))
      ++ behind_loop test body at ∷ []))
  statement_labels (core.Return value a) at = []

  pub block_labels : core.Stmts → (at : ℕ) → List ℕ
  block_labels core.NoStmt at = []
  block_labels (core.AStmt s ss) at = statement_labels s at ++ block_labels ss (at + statement_size s)
