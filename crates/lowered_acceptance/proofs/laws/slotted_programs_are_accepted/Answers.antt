use Rattle.lowered_acceptance.proofs.SlottedAccepted.{slotted_accepted}
use Rattle.lowered_acceptance.proofs.laws.slotted_programs_are_accepted.Goals as goal

pub returns : goal.returns
returns c = λ typed homes is ranged slotted short headed main. slotted_accepted typed homes is ranged slotted short headed main
