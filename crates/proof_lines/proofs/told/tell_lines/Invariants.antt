use Rattle.std.proofs.Common.{length}
use Rattle.proof_lines.specs.Spelling.{AreLines}
use Rattle.proof_lines.proofs.told.tell_lines.Given as goal

abbrev pub invariant-lines : goal.invariant-lines
invariant-lines l = AreLines l.rest → AreLines l.lines

abbrev pub decreases-lines : goal.decreases-lines
decreases-lines l = length l.rest
