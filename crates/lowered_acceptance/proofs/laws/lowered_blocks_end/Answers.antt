use Rattle.lowering.proofs.LoweredFunctions.{in_blocks}
use Rattle.lowering.specs.Lowered.{body_of}
use Rattle.lowered_acceptance.proofs.LoweredBlocks.{blocks_end}
use Rattle.lowered_acceptance.proofs.laws.lowered_blocks_end.Goals as goal

pub returns : goal.returns
returns c = λ program number f shaped there forms. blocks_end (body_of program f).code (body_of program f).labels (in_blocks program number f shaped there) forms
