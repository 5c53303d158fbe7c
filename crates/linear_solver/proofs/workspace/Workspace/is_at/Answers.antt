use Rattle.std.proofs.Common.{sym, ◌∙◌}
use Rattle.linear_solver.proofs.workspace.Workspace.is_at.Goals as goal

pub returns-else-has_signs : goal.returns-else-has_signs
returns-else-has_signs c = c.if-has_signs.false ∙ sym (c.has_signs.ensures _ c.requires.signed c.if-has_signs.false)
