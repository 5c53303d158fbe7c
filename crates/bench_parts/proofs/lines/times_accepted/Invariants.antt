use Rattle.std.proofs.Common.{◌≡◌}
use Rattle.bench_parts.proofs.lines.times_accepted.Given as goal

-- the pool is as it was made
abbrev pub invariant-loop : goal.invariant-loop
invariant-loop l = l.pool ≡ l.initial.pool
