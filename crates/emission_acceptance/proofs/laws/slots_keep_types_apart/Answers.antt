use Rattle.emission_acceptance.proofs.SlotsTyped.{slots_typed}
use Rattle.emission_acceptance.proofs.laws.slots_keep_types_apart.Goals as goal

pub returns : goal.returns
returns c = λ fun labels homes slots reads writes listed. slots_typed fun labels homes slots reads writes listed
