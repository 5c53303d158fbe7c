use Rattle.std.proofs.Common.{get_or}
use Rattle.linear_solver.specs.Region.{no_row}
use Rattle.linear_solver.proofs.WorkspaceReads.{coefficient_in}
use Rattle.linear_solver.proofs.workspace.Workspace.coefficient.Goals as goal

pub returns : goal.returns
returns c = coefficient_in _ _ _ (get_or c.args.self.now.rows c.args.at no_row) _ c.vars-vars.ensures.vars c.vars-vars.ensures.rising c.requires.column c.coefficients.ensures.linear
