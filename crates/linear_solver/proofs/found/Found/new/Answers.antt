use Rattle.linear_solver.proofs.MappedVariables.{nothing_mapped}
use Rattle.linear_solver.proofs.found.Found.new.Goals as goal

pub invariant_of-result : goal.invariant_of-result
invariant_of-result c = record {
  mapped = nothing_mapped _ _ (c.in-Ok.ensures {u = tt}).items c.no_marks-map.ensures;
  room = (c.in-Ok.ensures {u = tt}).capacity;
}
