use Rattle.std.proofs.Common.{◌≡◌}
use Rattle.test_logic.proofs.tests.contexts.rows_stop_at_the_bound.Given as goal

abbrev pub invariant-loop-var : goal.invariant-loop-var
invariant-loop-var g l = l.context.vars ≡ 513
