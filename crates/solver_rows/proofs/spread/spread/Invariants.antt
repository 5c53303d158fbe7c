use Rattle.std.proofs.Common.{◌≡◌, ◌+◌, ◌≤◌, ◌++◌, ◌∷◌, length}
use Rattle.solver_rows.specs.RowsInCells.{spread_cells}
use Rattle.solver_rows.proofs.spread.spread.Given as goal

abbrev pub invariant-vars : goal.invariant-vars
invariant-vars l = record {
  same : l.cells.items ++ spread_cells l.later_vars l.later_terms ≡ l.constant ∷ spread_cells l.vars l.terms;
  few : length l.cells.items + length l.later_vars ≤ 65;
}

abbrev pub decreases-vars : goal.decreases-vars
decreases-vars l = length l.later_vars
