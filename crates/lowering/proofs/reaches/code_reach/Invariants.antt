use Rattle.std.proofs.Common.{◌≡◌, max, length}
use Rattle.lowering.specs.Lowered.{code_reach}
use Rattle.lowering.proofs.reaches.code_reach.Given as goal

abbrev pub invariant-code : goal.invariant-code
invariant-code l = max l.reach (code_reach l.rest) ≡ max l.least (code_reach l.code)

abbrev pub decreases-code : goal.decreases-code
decreases-code l = length l.rest
