use Rattle.linear_solver.proofs.Tallies.{zero_at}
use Rattle.linear_solver.proofs.counts.zeros.Goals as goal

pub returns : goal.returns
returns c column = zero_at 64 column
