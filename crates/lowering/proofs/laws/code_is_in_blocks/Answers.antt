use Rattle.lowering.proofs.LoweredFunctions.{in_blocks}
use Rattle.lowering.proofs.laws.code_is_in_blocks.Goals as goal

pub returns : goal.returns
returns c = in_blocks
