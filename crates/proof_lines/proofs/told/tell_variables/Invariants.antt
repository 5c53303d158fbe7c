use Rattle.std.proofs.Common.{length}
use Rattle.proof_lines.specs.Spelling.{AreVariables}
use Rattle.proof_lines.proofs.told.tell_variables.Given as goal

abbrev pub invariant-terms : goal.invariant-terms
invariant-terms l = AreVariables l.rest → AreVariables l.terms

abbrev pub decreases-terms : goal.decreases-terms
decreases-terms l = length l.rest
