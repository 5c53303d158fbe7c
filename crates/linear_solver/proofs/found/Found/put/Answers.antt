use Rattle.std.proofs.Common.{arith}
use Rattle.linear_solver.proofs.MappedVariables.{one_mapped}
use Rattle.linear_solver.proofs.found.Found.put.Goals as goal

pub invariant_of-self : goal.invariant_of-self
invariant_of-self c = record {
  mapped = one_mapped _ _ _ _ _ c.self.invariant.mapped (c.in-Ok.ensures {u = tt}).items c.mark.ensures;
  room = omega (arith, c.self.invariant.room, (c.in-Ok.ensures {u = tt}).capacity);
}
