use Rattle.std.proofs.Common.{◌≡◌, ◌+◌, ◌*◌, ◌≤◌, length}
use Rattle.linear_solver.specs.Cone.{reached}
use Rattle.linear_solver.proofs.cone.reach.Given as goal

abbrev pub invariant-rows : goal.invariant-rows
invariant-rows l = record {
  same : reached l.found l.rest ≡ reached l.fn.found l.rows;
  room : length l.found + 16 * length l.rest ≤ 8272;
}

abbrev pub decreases-rows : goal.decreases-rows
decreases-rows l = length l.rest
