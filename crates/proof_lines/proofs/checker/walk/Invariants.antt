use Rattle.std.proofs.Common.{length}
use Rattle.proof_lines.specs.Cells.{IsBlankBehind}
use Rattle.proof_lines.proofs.CheckProgress.{Walking}
use Rattle.proof_lines.proofs.checker.walk.Given as goal

abbrev pub invariant-lines : goal.invariant-lines
invariant-lines l = Walking l.hyps l.goal l.lines l.fn.pool l.pool l.base l.columns l.at × IsBlankBehind (length l.columns) l.cells
