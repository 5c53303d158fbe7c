-- How many leaves the tests of a block have, and how many conditional branches there are in code.
use Rattle.std.specs.Prelude.{ℕ, ◌+◌, Bool as Truth, true, false, List, [], ◌∷◌}
use Rattle.xanadu_tree.specs.Plain as core
use Rattle.three_address.specs.declared.instruction.LowInstr.{LowInstr}
use Rattle.three_address.specs.declared.instruction.Op22.{Op22}
use Rattle.three_address.specs.declared.instruction.Op22.TheVariants as op
use Rattle.value_lowering.specs.OneInstruction.{one_if}

abbrev pub is_conditional : Op22 → Truth
is_conditional op.Br = true
is_conditional op.Bt = true
is_conditional op.Bf = true
is_conditional _ = false

unfoldable pub conditional_branches : List LowInstr → ℕ
conditional_branches [] = 0
conditional_branches (i ∷ code) = one_if (is_conditional i.op) + conditional_branches code

unfoldable mutual
  pub test_leaves : core.Test → ℕ
  test_leaves (core.Leaf e) = 1
  test_leaves (core.All parts) = parts_leaves parts
  test_leaves (core.Any parts) = parts_leaves parts
  test_leaves (core.Not part) = test_leaves part

  pub parts_leaves : core.Tests → ℕ
  parts_leaves core.NoTest = 0
  parts_leaves (core.ATest t ts) = test_leaves t + parts_leaves ts

unfoldable mutual
  pub statement_leaves : core.Stmt → ℕ
  statement_leaves (core.Set x e) = 0
  statement_leaves (core.Split xs e at) = 0
  statement_leaves (core.Store array index e at) = 0
  statement_leaves (core.Do call) = 0
  statement_leaves (core.Print e) = 0
  statement_leaves (core.If test on_true on_false join at) = test_leaves test + (block_leaves on_true + block_leaves on_false)
  statement_leaves (core.While test head body at) = test_leaves test + block_leaves body
  statement_leaves (core.Return value at) = 0

  pub block_leaves : core.Stmts → ℕ
  block_leaves core.NoStmt = 0
  block_leaves (core.AStmt s ss) = statement_leaves s + block_leaves ss
