use Rattle.emission_laws.proofs.SlotsApart.{slots_apart}
use Rattle.emission_laws.proofs.laws.slots_keep_apart.Goals as goal

pub returns : goal.returns
returns c = λ fun homes slots small. slots_apart fun homes slots small
