use Rattle.linear_solver.proofs.MappedVariables.{nothing_marked}
use Rattle.linear_solver.proofs.found.no_marks.Goals as goal

pub returns : goal.returns
returns c var = nothing_marked 1024 var
