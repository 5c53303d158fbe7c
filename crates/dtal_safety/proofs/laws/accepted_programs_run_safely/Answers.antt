use Rattle.dtal_safety.proofs.AcceptedRuns.{runs_safely}
use Rattle.dtal_safety.proofs.laws.accepted_programs_run_safely.Goals as goal

pub returns : goal.returns
returns c = λ program args heap depth steps accepted. runs_safely program accepted args heap depth steps
