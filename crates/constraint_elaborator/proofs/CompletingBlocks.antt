-- Whether a block completes, as a loop over its statements finds it.
use Rattle.std.proofs.Common.{◌≡◌, Bool as Truth, true, refl}
use Rattle.xanadu_tree.specs.BodyRules.{completes, completes_all}
use Rattle.xanadu_tree.specs.Plain as core

-- whether a block completes of which an earlier statement is looked at: the end is its last statement's
abbrev pub ends_with : Truth → core.Stmts → Truth
ends_with end core.NoStmt = end
ends_with end (core.AStmt s ss) = ends_with (completes s) ss

pub ends-all : (ss : core.Stmts) → ends_with true ss ≡ completes_all ss
ends-all core.NoStmt = refl
ends-all (core.AStmt s core.NoStmt) = refl
ends-all (core.AStmt s (core.AStmt t ts)) = ends-all (core.AStmt t ts)
