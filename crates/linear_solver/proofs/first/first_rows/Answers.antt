use Rattle.std.proofs.Common.{ap, [], length, arith}
use Rattle.linear_solver.proofs.Room.{hyps-more}
use Rattle.linear_solver.proofs.first.first_rows.Goals as goal

pub settle-requires-clause-few_made : goal.settle-requires-clause-few_made
settle-requires-clause-few_made c = omega (arith, c.requires.few, ap (λ w. length w.made) c.with_hyps.ensures, hyps-more c.args.work.now.vars 0 c.args.hyps.now [])
