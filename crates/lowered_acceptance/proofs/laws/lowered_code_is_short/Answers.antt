use Rattle.lowered_acceptance.proofs.SlottedAccepted.{short_code}
use Rattle.lowered_acceptance.proofs.laws.lowered_code_is_short.Goals as goal

pub returns : goal.returns
returns c = λ base shaped made. short_code base shaped made
