use Rattle.std.proofs.Common.{◌≡◌, ◌+◌, drop}
use Rattle.dtal_driver.specs.VerifiedTexts.{instructions_of}
use Rattle.dtal_driver.proofs.counts.count_in_functions.Given as goal

-- those that were counted, and those of the functions that are left, are all
abbrev pub invariant-each : goal.invariant-each
invariant-each l = l.count + instructions_of (drop l.fun-index l.funs) ≡ instructions_of l.funs
