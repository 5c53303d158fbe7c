use Rattle.source_safety.proofs.CalledFare.{called_fares}
use Rattle.source_safety.proofs.run_laws.calls_fare.Goals as goal

pub returns : goal.returns
returns g c = λ recorder program made depth bound live shape is goals. called_fares recorder program made goals shape is depth bound live
