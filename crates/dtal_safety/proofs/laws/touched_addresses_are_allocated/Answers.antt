use Rattle.dtal_safety.proofs.SafeRuns.{step_touches}
use Rattle.dtal_safety.proofs.laws.touched_addresses_are_allocated.Goals as goal

pub returns : goal.returns
returns c = λ code state whole goes. step_touches code state whole goes
