use Rattle.std.proofs.Common.{◌≡◌, drop}
use Rattle.std.specs.List.{list_any}
use Rattle.solver_rows.specs.SystemRows.{same_terms}
use Rattle.solver_rows.specs.RowsInCells.{linear_in}
use Rattle.linear_solver.proofs.workspace.Workspace.place_of.Given as goal

abbrev pub invariant-rows : goal.invariant-rows
invariant-rows l = list_any (λ row. same_terms row.terms (linear_in l.self.vars l.row.cells.items).terms) (drop l.place l.self.made)
    ≡ list_any (λ row. same_terms row.terms (linear_in l.self.vars l.row.cells.items).terms) l.self.made
