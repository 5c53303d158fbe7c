use Rattle.std.proofs.Common.{◌-◌}
use Rattle.linear_solver.proofs.Tallies.{Raises}
use Rattle.linear_solver.proofs.counts.add_columns.Given as goal

abbrev pub invariant-columns : goal.invariant-columns
invariant-columns l = Raises l.columns l.fn.counts l.counts l.column

abbrev pub decreases-columns : goal.decreases-columns
decreases-columns l = 64 - l.column
