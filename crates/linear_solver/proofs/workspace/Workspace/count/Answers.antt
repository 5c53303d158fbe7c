use Rattle.std.proofs.Common.{arith}
use Rattle.linear_solver.proofs.Regions.{count_rows}
use Rattle.linear_solver.proofs.workspace.Workspace.count.Goals as goal

pub returns : goal.returns
returns c = omega (arith, c.len.ensures, c.self.inside.rows.ok, count_rows _ _ _ _ _ _ c.self.invariant.lies c.self.view_is)
