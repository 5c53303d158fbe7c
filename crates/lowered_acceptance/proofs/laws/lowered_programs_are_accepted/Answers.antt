use Rattle.lowered_acceptance.proofs.SlottedAccepted.{lowered_accepted}
use Rattle.lowered_acceptance.proofs.laws.lowered_programs_are_accepted.Goals as goal

pub returns : goal.returns
returns c = λ base typed homes shaped made same is ranged slotted. lowered_accepted base typed homes shaped made same is ranged slotted
