use Rattle.proof_lines.proofs.FilledCells.{Clearing}
use Rattle.proof_lines.proofs.cells.clear.Given as goal

abbrev pub invariant-columns : goal.invariant-columns
invariant-columns l = Clearing l.cells l.fn.cells l.place
