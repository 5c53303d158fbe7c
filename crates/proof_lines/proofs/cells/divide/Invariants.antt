use Rattle.proof_lines.proofs.CutCells.{Cutting}
use Rattle.proof_lines.proofs.cells.divide.Given as goal

abbrev pub invariant-columns : goal.invariant-columns
invariant-columns l = Cutting l.cells l.fn.cells l.row l.by l.place
