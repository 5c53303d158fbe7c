use Rattle.dtal_safety.proofs.AcceptedRuns.{places_are_256}
use Rattle.dtal_safety.proofs.SafeRuns.{comes_fit}
use Rattle.dtal_safety.proofs.laws.reached_states_fit.Goals as goal

pub returns-clause-fit : goal.returns-clause-fit
returns-clause-fit c = λ program accepted steps state last fits e. comes_fit program accepted steps state last fits e

pub returns-clause-places : goal.returns-clause-places
returns-clause-places c = λ program states state fits. places_are_256 program states state fits
