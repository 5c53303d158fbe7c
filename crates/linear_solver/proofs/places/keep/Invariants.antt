use Rattle.std.proofs.Common.{◌≡◌, ◌+◌, ◌≤◌, ◌++◌, length, drop, vec_capacity}
use Rattle.linear_solver.specs.Region.{without}
use Rattle.linear_solver.proofs.places.keep.Given as goal

abbrev pub invariant-rows : goal.invariant-rows
invariant-rows l = record {
  same : l.made.items ++ without l.column (drop l.at l.rows) ≡ l.fn.made.items ++ without l.column l.rows;
  few : length l.made.items ≤ length l.fn.made.items + l.at;
  capacity : vec_capacity l.fn.made ≤ vec_capacity l.made;
}
