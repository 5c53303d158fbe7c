use Rattle.three_address.proofs.LowSteps.{outcome-steady}
use Rattle.three_address.proofs.laws.low_runs_are_steady.Goals as goal

pub returns : goal.returns
returns c = λ program args heap depth. outcome-steady _ _
