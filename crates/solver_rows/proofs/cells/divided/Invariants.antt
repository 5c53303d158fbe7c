use Rattle.std.proofs.Common.{◌≡◌, map, take}
use Rattle.proof_lines.specs.Rows.{floor_over}
use Rattle.solver_rows.proofs.cells.divided.Given as goal

abbrev pub invariant-cells : goal.invariant-cells
invariant-cells l = l.made.items ≡ map (λ cell. floor_over cell l.by) (take l.cell-index l.cells)
