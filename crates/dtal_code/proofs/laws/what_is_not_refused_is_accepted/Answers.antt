use Rattle.dtal_code.proofs.VerifiedPrograms.{verified_is_accepted}
use Rattle.dtal_code.proofs.laws.what_is_not_refused_is_accepted.Goals as goal

pub returns : goal.returns
returns c = λ program states grammar e. (verified_is_accepted program states grammar e).accepted
