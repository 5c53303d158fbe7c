use Rattle.std.proofs.Common.{◌≡◌, ◌+◌, ◌≤◌, [], length, vec_capacity}
use Rattle.linear_solver.specs.Tracing.{kept_onto}
use Rattle.linear_solver.proofs.tracing.kept.Given as goal

abbrev pub invariant-steps : goal.invariant-steps
invariant-steps l = record {
  same : kept_onto l.kept.items l.numbers.items l.later_marks l.later_steps ≡ kept_onto [] [] l.marks l.steps;
  few : length l.kept.items + length l.later_steps ≤ length l.steps;
  few_numbers : length l.numbers.items + length l.later_steps ≤ length l.steps;
  capacity : vec_capacity l.fn.kept ≤ vec_capacity l.kept;
  numbers : vec_capacity l.fn.numbers ≤ vec_capacity l.numbers;
}

abbrev pub decreases-steps : goal.decreases-steps
decreases-steps l = length l.later_steps
