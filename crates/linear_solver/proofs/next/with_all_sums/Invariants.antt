use Rattle.std.proofs.Common.{get_or}
use Rattle.solver_rows.specs.declared.source.Sign.TheVariants.{Positive, Negative}
use Rattle.linear_solver.specs.Systems.{with_all_sums, with_sign}
use Rattle.linear_solver.proofs.Makings.{AllSums}
use Rattle.linear_solver.proofs.next.with_all_sums.Given as goal

abbrev pub invariant-rows : goal.invariant-rows
invariant-rows l = AllSums l.column l.at l.fn.work l.work (with_all_sums (get_or l.fn.work.vars l.column 0) (with_sign Positive (get_or l.fn.work.vars l.column 0) l.fn.work.rows) (with_sign Negative (get_or l.fn.work.vars l.column 0) l.fn.work.rows) l.fn.work.made)
