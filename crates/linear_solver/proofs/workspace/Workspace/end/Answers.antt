use Rattle.std.proofs.Common.{◌∙◌, length, arith}
use Rattle.linear_solver.proofs.Stores.{in-bound}
use Rattle.linear_solver.proofs.PlacedRows.{empty_lies, empty_is}
use Rattle.linear_solver.proofs.workspace.Workspace.end.Goals as goal

pub release-requires : goal.release-requires
release-requires c =
    let l = c.self.invariant.lies in
    omega (arith, in-bound c.self.inside.base (length c.self.inside.pool.rows) c.self.inside.rows.items l.in_rows)

pub invariant_of-self : goal.invariant_of-self
invariant_of-self c = record {
  lies = empty_lies _ _ _ _ (c.swap.ensures.x_after ∙ c.requires) c.clear.ensures c.clear-2.ensures.items c.clear-3.ensures.items;
  room_rows = omega (arith, c.clear-2.ensures.capacity, c.self.invariant.room_rows);
  room_made = omega (arith, c.clear-3.ensures.capacity, c.self.invariant.room_made);
}

pub returns-clause-idle : goal.returns-clause-idle
returns-clause-idle c = empty_is _ _ _ _ (c.swap.ensures.x_after ∙ c.requires) c.clear.ensures c.clear-2.ensures.items c.clear-3.ensures.items
