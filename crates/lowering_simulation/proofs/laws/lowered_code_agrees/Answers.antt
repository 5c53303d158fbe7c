use Rattle.lowering_simulation.proofs.AgreedRuns.{proved_code_agrees}
use Rattle.lowering_simulation.proofs.laws.lowered_code_agrees.Goals as goal

pub returns : goal.returns
returns c = λ base lines elaborated shaped proved. proved_code_agrees base elaborated shaped lines proved
