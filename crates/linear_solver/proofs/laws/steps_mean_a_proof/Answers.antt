use Rattle.linear_solver.proofs.ProvedSteps.{proved-proves}
use Rattle.linear_solver.proofs.laws.steps_mean_a_proof.Goals as goal

pub returns : goal.returns
returns c hyps goal forms form proved = proved-proves hyps goal forms form proved
