use Rattle.lowering.proofs.LoweredFunctions.{have_jumps}
use Rattle.lowering.proofs.laws.labels_have_jumps.Goals as goal

pub returns : goal.returns
returns c = have_jumps
