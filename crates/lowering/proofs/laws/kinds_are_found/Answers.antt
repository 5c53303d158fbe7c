use Rattle.value_lowering.proofs.KindsFound.{number_is_found}
use Rattle.lowering.proofs.laws.kinds_are_found.Goals as goal

pub returns : goal.returns
returns c = number_is_found
