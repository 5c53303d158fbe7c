use Rattle.dtal_safety.proofs.SafeRuns.{stays_fit}
use Rattle.dtal_safety.proofs.laws.steps_keep_fitting.Goals as goal

pub returns : goal.returns
returns c = λ program accepted state next printed fits e. stays_fit program accepted state next printed fits e
