use Rattle.std.proofs.Common.{◌≡◌, ◌+◌, ◌≤◌, length}
use Rattle.test_logic.proofs.tests.solver.again.count_met_again.Given as goal

abbrev pub invariant-loop : goal.invariant-loop
invariant-loop l = record {
  width : l.pool.width ≡ 65;
  room : length l.pool.rows + 4001 ≤ l.pool.capacity;
}
