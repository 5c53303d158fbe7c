use Rattle.std.proofs.Common.{◌≡◌, ◌↔◌, ◌∙◌, ap, get_or, IsTrue, List, ℤ, drop, subst}
use Rattle.linear_solver.specs.Region.{no_row}
use Rattle.linear_solver.proofs.WorkspaceReads.{same_in}
use Rattle.linear_solver.proofs.workspace.Workspace.has_cells.Goals as goal

pub returns : goal.returns
returns c =
    same_in _ _ _ c.args.cells.now.items (get_or c.args.self.now.made c.args.place no_row) c.are_same.result c.vars-vars.ensures.vars c.vars-vars.ensures.rising c.made_coefficients.ensures.wide c.requires.wide c.made_coefficients.ensures.linear
    (subst (λ (ys : List ℤ). IsTrue c.are_same.result ↔ (c.made_coefficients.result.now ≡ ys)) (c.coefficients.ensures ∙ ap (drop 1) c.as_slice.ensures.value) c.are_same.ensures)
