use Rattle.std.proofs.Common.{◌≡◌, ◌+◌, ◌≤◌, length}
use Rattle.bench_parts.proofs.goals.times_proved.Given as goal

abbrev pub invariant-loop : goal.invariant-loop
invariant-loop l = record {
  width : l.pool.width ≡ 65;
  room : length l.pool.rows + 4001 ≤ l.pool.capacity;
}
