-- How deep blocks stand in one another: the measure of the walk through them.
use Rattle.std.proofs.Common.{◌<◌, ◌≤◌, ℕ, zero, suc, max, List, [], ◌∷◌, length, get_or, arith}
use Rattle.xanadu_tree.specs.Plain as core
use Rattle.xanadu_tree.specs.PlainOf.{plain_block, plain_stmt}
use Rattle.xanadu_tree.specs.declared.stmt.CoreStmt.{CoreStmt}

abbrev mutual
  pub depth_of : core.Stmt → ℕ
  depth_of (core.If test on_true on_false join at) = suc (max (block_depth on_true) (block_depth on_false))
  depth_of (core.While test head body at) = suc (block_depth body)
  depth_of _ = 0

  pub block_depth : core.Stmts → ℕ
  block_depth core.NoStmt = 0
  block_depth (core.AStmt s ss) = max (depth_of s) (block_depth ss)

pub one_depth : (statements : List CoreStmt) (i : ℕ) (d : CoreStmt) → i < length statements → depth_of (plain_stmt (get_or statements i d)) ≤ block_depth (plain_block statements)
one_depth [] i d h = absurd (omega (arith, h))
one_depth (s ∷ ss) zero d h = omega arith
one_depth (s ∷ ss) (suc i) d h = (let later = one_depth ss i d (omega (arith, h)) in omega (arith, later))
