use Rattle.std.proofs.Common.{arith}
use Rattle.linear_solver.proofs.MappedVariables.{nothing_mapped}
use Rattle.linear_solver.proofs.found.Found.clear.Goals as goal

pub invariant_of-self : goal.invariant_of-self
invariant_of-self c = record {
  mapped = nothing_mapped _ _ c.clear.ensures.items c.no_marks-self-inside.ensures;
  room = omega (arith, c.self.invariant.room, c.clear.ensures.capacity);
}
