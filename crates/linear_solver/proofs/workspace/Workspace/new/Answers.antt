use Rattle.linear_solver.proofs.PlacedRows.{empty_lies, empty_is}
use Rattle.linear_solver.proofs.workspace.Workspace.new.Goals as goal

pub invariant_of-result : goal.invariant_of-result
invariant_of-result c = record {
  lies = empty_lies _ _ _ _ (c.in-Ok.ensures {u = tt}) c.new-3.ensures (c.in-Ok-with_capacity.ensures {u = tt}).items (c.in-Ok-with_capacity-2.ensures {u = tt}).items;
  room_rows = (c.in-Ok-with_capacity.ensures {u = tt}).capacity;
  room_made = (c.in-Ok-with_capacity-2.ensures {u = tt}).capacity;
}

pub returns : goal.returns
returns c = empty_is _ _ _ _ (c.in-Ok.ensures {u = tt}) c.new-3.ensures (c.in-Ok-with_capacity.ensures {u = tt}).items (c.in-Ok-with_capacity-2.ensures {u = tt}).items
