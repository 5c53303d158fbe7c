use Rattle.proof_lines.proofs.SpreadCells.{Spreading}
use Rattle.proof_lines.proofs.cells.spread.Given as goal

abbrev pub invariant-terms : goal.invariant-terms
invariant-terms l = Spreading l.fn.columns l.columns l.cells l.terms l.constant l.term-index
