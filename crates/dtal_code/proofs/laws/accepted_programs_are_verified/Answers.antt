use Rattle.dtal_code.proofs.VerifiedPrograms.{accepted_is_verified}
use Rattle.dtal_code.proofs.laws.accepted_programs_are_verified.Goals as goal

pub returns : goal.returns
returns c = accepted_is_verified
