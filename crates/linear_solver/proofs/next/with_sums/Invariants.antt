use Rattle.std.proofs.Common.{get_or}
use Rattle.solver_rows.specs.declared.source.Sign.TheVariants.{Negative}
use Rattle.linear_solver.specs.Systems.{with_sums, with_sign}
use Rattle.linear_solver.specs.Region.{no_row}
use Rattle.linear_solver.proofs.Makings.{Sums}
use Rattle.linear_solver.proofs.next.with_sums.Given as goal

abbrev pub invariant-rows : goal.invariant-rows
invariant-rows l = Sums l.column l.at l.positive l.fn.work l.work (with_sums (get_or l.fn.work.vars l.column 0) (get_or l.fn.work.rows l.positive no_row) (with_sign Negative (get_or l.fn.work.vars l.column 0) l.fn.work.rows) l.fn.work.made)
