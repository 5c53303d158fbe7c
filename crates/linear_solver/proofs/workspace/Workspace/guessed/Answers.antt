use Rattle.std.proofs.Common.{arith}
use Rattle.linear_solver.proofs.WorkspaceReads.{is_place}
use Rattle.linear_solver.proofs.workspace.Workspace.guessed.Goals as goal

pub returns-then-is_at : goal.returns-then-is_at
returns-then-is_at c = is_place _ _ _ _ (omega (arith, c.if-guess-count_made.false, c.count_made.ensures)) c.is_at.ensures c.if-is_at.true
