use Rattle.std.proofs.Common.{◌∙◌, sym, refl}
use Rattle.linear_solver.proofs.WorkspaceReads.{put_settled, set_settled}
use Rattle.linear_solver.proofs.workspace.Workspace.settle_searched.Goals as goal

pub returns-in-Some : goal.returns-in-Some
returns-in-Some c = c.hint.ensures ∙ set_settled _ _ _ _ _ (sym c.requires.settled.told) refl (c.in-Some.ensures {u = tt}) c.tell_distinct.ensures c.lower.ensures

pub returns-in-None : goal.returns-in-None
returns-in-None c = c.hint-in-None.ensures ∙ put_settled _ _ _ _ (sym c.requires.settled.told) refl (c.in-None.ensures {u = tt}) c.put.ensures
