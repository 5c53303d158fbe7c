use Rattle.dtal_code.proofs.Codings.{one_instruction}
use Rattle.dtal_code.proofs.laws.pairs_code_one_instruction.Goals as goal

pub returns : goal.returns
returns c = one_instruction
