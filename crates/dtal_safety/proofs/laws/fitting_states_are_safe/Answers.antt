use Rattle.dtal_safety.proofs.SafeRuns.{is_safe}
use Rattle.dtal_safety.proofs.laws.fitting_states_are_safe.Goals as goal

pub returns : goal.returns
returns c = λ program accepted state fits. is_safe program accepted state fits
