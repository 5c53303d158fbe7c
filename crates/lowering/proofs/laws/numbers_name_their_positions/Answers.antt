use Rattle.lowering.proofs.LoweredFunctions.{names_position}
use Rattle.lowering.proofs.laws.numbers_name_their_positions.Goals as goal

pub returns : goal.returns
returns c = names_position
