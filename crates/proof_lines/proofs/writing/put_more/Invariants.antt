-- The lines so far and those that are left are all, behind what was there.
use Rattle.proof_lines.proofs.Fronts.{Writing}
use Rattle.proof_lines.proofs.writing.put_more.Given as goal

abbrev pub invariant-lines : goal.invariant-lines
invariant-lines l = Writing l.fn.out.items l.out.items l.lines l.line-index
