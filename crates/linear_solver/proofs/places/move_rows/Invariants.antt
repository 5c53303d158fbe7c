use Rattle.std.proofs.Common.{◌≡◌, ◌≤◌, vec_capacity}
use Rattle.linear_solver.proofs.Stores.{Moves}
use Rattle.linear_solver.proofs.places.move_rows.Given as goal

abbrev pub invariant-rows : goal.invariant-rows
invariant-rows l = record {
  moves : Moves l.base l.at l.fn.pool.rows l.pool.rows l.rows l.fn.placed.items l.placed.items;
  kept : l.pool ≡ record l.fn.pool { rows = l.pool.rows };
  capacity : vec_capacity l.fn.placed ≤ vec_capacity l.placed;
}
