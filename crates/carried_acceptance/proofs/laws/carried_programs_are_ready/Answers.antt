use Rattle.carried_acceptance.proofs.CarriedAccepted.{is_ready}
use Rattle.carried_acceptance.proofs.laws.carried_programs_are_ready.Goals as goal

pub returns : goal.returns
returns c = λ program typed homes whole. is_ready program typed homes whole
