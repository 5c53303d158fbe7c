use Rattle.std.proofs.Common.{[]}
use Rattle.linear_solver.specs.Elimination.{with_hyps}
use Rattle.linear_solver.proofs.Givings.{Gives}
use Rattle.linear_solver.proofs.first.with_hyps.Given as goal

abbrev pub invariant-rows : goal.invariant-rows
invariant-rows l = Gives l.fn.work l.work l.hyps (with_hyps l.fn.work.vars 0 l.hyps []) l.at
