use Rattle.std.proofs.Common.{◌+◌, ◌∷◌}
use Rattle.solver_rows.proofs.CellSums.{Adding}
use Rattle.solver_rows.proofs.cells.combine.Given as goal

abbrev pub invariant-cells : goal.invariant-cells
invariant-cells l = Adding l.cells.items l.by.first (l.left_constant ∷ l.left) l.by.second (l.right_constant ∷ l.right) (l.place + 1)
