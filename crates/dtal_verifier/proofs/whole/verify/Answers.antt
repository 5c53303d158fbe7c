use Rattle.dtal_verifier.proofs.VerdictLaws.{passed_is_verified, passed_is_accepted, refused_so, accepted_is_not_refused}
use Rattle.dtal_verifier.proofs.whole.verify.Goals as goal

pub returns-in-Err-clause-complete : goal.returns-in-Err-clause-complete
returns-in-Err-clause-complete c = accepted_is_not_refused c.args.program c.in-Err.error c.in-Err.ensures

pub returns-in-Err-clause-exact : goal.returns-in-Err-clause-exact
returns-in-Err-clause-exact c = refused_so c.args.program c.in-Err.error c.in-Err.ensures

pub returns-in-Ok-clause-accepted : goal.returns-in-Ok-clause-accepted
returns-in-Ok-clause-accepted c = passed_is_accepted c.args.program c.requires c.in-Ok.ensures

pub returns-in-Ok-clause-exact : goal.returns-in-Ok-clause-exact
returns-in-Ok-clause-exact c = passed_is_verified c.args.program c.in-Ok.ensures
