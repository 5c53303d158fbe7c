use Rattle.std.proofs.Common.{◌≡◌, ◌+◌, ◌*◌, ◌≤◌, [], length, vec_capacity}
use Rattle.linear_solver.specs.Region.{numbered_sides}
use Rattle.linear_solver.proofs.numbering.number.Given as goal

abbrev pub invariant-rows : goal.invariant-rows
invariant-rows l = record {
  same : numbered_sides l.steps l.done.items l.rest ≡ numbered_sides l.fn.steps [] l.made;
  few : length l.steps + 2 * length l.rest ≤ length l.fn.steps + 2 * length l.made;
  room : length l.done.items + length l.rest ≤ vec_capacity l.done;
  capacity : vec_capacity l.fn.done ≤ vec_capacity l.done;
}

abbrev pub decreases-rows : goal.decreases-rows
decreases-rows l = length l.rest
