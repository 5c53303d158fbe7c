use Rattle.std.proofs.Common.{◌-◌}
use Rattle.solver_rows.proofs.hashes.hash.Given as goal

abbrev pub decreases-columns : goal.decreases-columns
decreases-columns l = 64 - l.column
