use Rattle.emission_acceptance.proofs.SlotsTyped.{slots_differ}
use Rattle.emission_acceptance.proofs.laws.slots_keep_labels_apart.Goals as goal

pub returns : goal.returns
returns c = λ homes count places slots rise small. slots_differ homes count places slots rise small
