use Rattle.proof_lines.proofs.CombinedCells.{Combining}
use Rattle.proof_lines.proofs.cells.combine.Given as goal

abbrev pub invariant-columns : goal.invariant-columns
invariant-columns l = Combining l.cells l.fn.cells l.left l.right l.left_by l.right_by l.place
