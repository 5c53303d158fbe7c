use Rattle.linear_solver.specs.Meaning.{lines_meant}
use Rattle.linear_solver.specs.Elimination.{proof_steps}
use Rattle.linear_solver.proofs.ProvedSteps.{proved-proves}
use Rattle.proof_lines.proofs.LineSoundness.{proved-entailed}
use Rattle.linear_solver.proofs.laws.proved_goals_are_entailed.Goals as goal

pub returns : goal.returns
returns c hyps goal forms form proved = proved-entailed hyps goal (lines_meant hyps (proof_steps hyps goal)) (proved-proves hyps goal forms form proved)
