use Rattle.std.proofs.Common.{◌≡◌}
use Rattle.test_logic.proofs.tests.solver.again.count_met.Given as goal

abbrev pub invariant-loop-rows : goal.invariant-loop-rows
invariant-loop-rows l = l.pool ≡ l.initial.pool
