use Rattle.std.proofs.Common.{◌≡◌, drop}
use Rattle.linear_solver.specs.Choosing.{refuted_by}
use Rattle.linear_solver.proofs.choose.refuted_by.Given as goal

abbrev pub invariant-rows : goal.invariant-rows
invariant-rows l = refuted_by (drop l.at l.work.rows) ≡ refuted_by l.work.rows
