use Rattle.std.proofs.Common.{◌≡◌, ◌+◌, drop}
use Rattle.program_builder.specs.Counts.{functions_instructions}
use Rattle.xanadu_driver.proofs.counting.count_in_functions.Given as goal

-- those that were counted, and those of the functions that are left, are all
abbrev pub invariant-each : goal.invariant-each
invariant-each l = l.count + functions_instructions (drop l.fun-index l.funs) ≡ functions_instructions l.funs
