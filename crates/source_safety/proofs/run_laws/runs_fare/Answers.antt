use Rattle.source_safety.proofs.NeverStuck.{run_fares}
use Rattle.source_safety.proofs.run_laws.runs_fare.Goals as goal

pub returns : goal.returns
returns g c = λ recorder log program made args bound heap depth fuel shape is goals fault. run_fares recorder log program made shape is goals args fault bound heap depth fuel
