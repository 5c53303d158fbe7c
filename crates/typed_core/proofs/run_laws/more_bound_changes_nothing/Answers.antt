use Rattle.typed_core.proofs.AlikeCalls.{runs_alike}
use Rattle.typed_core.proofs.run_laws.more_bound_changes_nothing.Goals as goal

pub returns : goal.returns
returns g c = λ recorder log bound other program args heap depth fuel low high. runs_alike _ recorder log bound other program args heap depth fuel low high
