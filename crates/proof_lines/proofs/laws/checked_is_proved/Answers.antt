use Rattle.proof_lines.proofs.Exact.{Decides-checked}
use Rattle.proof_lines.proofs.laws.checked_is_proved.Goals as goal

pub returns : goal.returns
returns c = λ hyps goal lines. Decides-checked hyps goal lines
