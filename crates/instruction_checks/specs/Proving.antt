-- Lines for demanded rows, one row after the other.
use Rattle.std.specs.Prelude.{◌≡◌, Bool as Truth, false, List, Option, Some, None, []}
use Rattle.index_sorts.specs.Context.{IndexContext}
use Rattle.xan_lin.specs.Linear.{Linear}
use Rattle.proof_lines.specs.declared.line.Line.{Line}
use Rattle.dtal_code.specs.Passing.{unknown, are_proved}
use Rattle.instruction_checks.specs.declared.lines.Checker as code_checker

-- whether the lines that are left prove the rows that are left; none are left where a row is not proved
abbrev pub proved_from : IndexContext → List Linear → Option (List (List Line)) → Truth
proved_from ctx rows None = false
proved_from ctx rows (Some by) = are_proved ctx (unknown ctx rows) by

-- no row is live, and the room is known
pub record IsReady (checker : code_checker.Checker) : Type 0 where
  pub width : checker.pool.width ≡ 65
  pub none : checker.pool.rows ≡ []
  pub room : checker.pool.capacity ≡ checker.room
