use Rattle.dtal_safety.proofs.FirstStates.{entry_fits}
use Rattle.dtal_safety.proofs.laws.first_states_fit.Goals as goal

pub returns : goal.returns
returns c = λ program accepted args heap depth state e. entry_fits program accepted args heap depth state e
