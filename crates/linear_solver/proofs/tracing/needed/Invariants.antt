use Rattle.std.proofs.Common.{◌≡◌, ◌≤◌, length, vec_capacity}
use Rattle.linear_solver.specs.Tracing.{marked_below, needed}
use Rattle.linear_solver.proofs.tracing.needed.Given as goal

abbrev pub invariant-steps : goal.invariant-steps
invariant-steps l = record {
  within : l.at ≤ length l.steps;
  same : marked_below l.at l.steps l.marks.items ≡ needed l.steps l.line;
  capacity : vec_capacity l.fn.marks ≤ vec_capacity l.marks;
}

abbrev pub decreases-steps : goal.decreases-steps
decreases-steps l = l.at
