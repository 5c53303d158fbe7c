use Rattle.lowered_acceptance.proofs.LoweredHeaded.{lowered_headed, lowered_main}
use Rattle.lowered_acceptance.proofs.laws.lowered_headers_are_well_made.Goals as goal

pub returns : goal.returns
returns c = record { headed = λ base shaped made. lowered_headed base shaped made; main = λ base shaped made. lowered_main base shaped made }
