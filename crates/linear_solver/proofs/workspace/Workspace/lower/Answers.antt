use Rattle.linear_solver.proofs.PlacedRows.{lowers, stays_low}
use Rattle.linear_solver.proofs.workspace.Workspace.lower.Goals as goal

pub returns-then-is_more_than : goal.returns-then-is_more_than
returns-then-is_more_than c = lowers _ _ _ _ _ c.is_more_than.ensures c.if-is_more_than.true c.replace.ensures

pub returns-else-is_more_than : goal.returns-else-is_more_than
returns-else-is_more_than c = stays_low _ _ _ _ c.is_more_than.ensures c.if-is_more_than.false
