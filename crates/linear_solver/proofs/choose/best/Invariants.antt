use Rattle.std.proofs.Common.{◌≡◌, None, drop}
use Rattle.linear_solver.specs.Choosing.{best_from}
use Rattle.linear_solver.proofs.choose.best.Given as goal

abbrev pub invariant-columns : goal.invariant-columns
invariant-columns l = best_from l.work.rows l.best (drop l.column l.work.vars) ≡ best_from l.work.rows None l.work.vars
