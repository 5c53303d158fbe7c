use Rattle.std.proofs.Common.{arith}
use Rattle.linear_solver.proofs.Regions.{count_made}
use Rattle.linear_solver.proofs.workspace.Workspace.count_made.Goals as goal

pub returns : goal.returns
returns c = omega (arith, c.len.ensures, c.self.inside.made.ok, count_made _ _ _ _ _ _ c.self.invariant.lies c.self.view_is)
