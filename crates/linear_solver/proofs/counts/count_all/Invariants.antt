use Rattle.solver_rows.specs.declared.source.Sign.TheVariants.{Positive, Negative}
use Rattle.linear_solver.proofs.Tallies.{Tallied, AreFew}
use Rattle.linear_solver.proofs.counts.count_all.Given as goal

abbrev pub invariant-rows : goal.invariant-rows
invariant-rows l = record {
  some : Tallied Positive l.work.vars l.work.rows l.positive l.at;
  others : Tallied Negative l.work.vars l.work.rows l.negative l.at;
  few : AreFew l.positive l.at;
  few_others : AreFew l.negative l.at;
}
