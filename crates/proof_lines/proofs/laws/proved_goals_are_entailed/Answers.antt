use Rattle.proof_lines.proofs.LineSoundness.{proved-entailed}
use Rattle.proof_lines.proofs.laws.proved_goals_are_entailed.Goals as goal

pub returns : goal.returns
returns c = λ hyps goal lines p. proved-entailed hyps goal lines p
