use Rattle.std.proofs.Common.{arith}
use Rattle.linear_solver.proofs.WorkspaceReads.{is_place, not_here, not_anywhere}
use Rattle.linear_solver.proofs.workspace.Workspace.place_of.Goals as goal

pub returns-then-is_at : goal.returns-then-is_at
returns-then-is_at c = is_place _ _ _ _ (omega (arith, c.rows-test.true, c.count_made-place-end.ensures)) c.is_at.ensures c.if-is_at.true

pub rows-preserved : goal.rows-preserved
rows-preserved c = not_here c.args.self.now.made _ _ _ (omega (arith, c.rows-test.true, c.count_made-place-end.ensures)) c.is_at.ensures c.if-is_at.false c.rows.invariant

pub returns : goal.returns
returns c = not_anywhere c.args.self.now.made _ c.rows.place (omega (arith, c.rows-test.false, c.count_made-place-end.ensures)) c.rows.invariant
