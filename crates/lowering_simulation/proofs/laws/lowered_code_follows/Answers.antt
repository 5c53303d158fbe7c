use Rattle.lowering_simulation.proofs.AgreedRuns.{code_follows}
use Rattle.lowering_simulation.proofs.laws.lowered_code_follows.Goals as goal

pub returns : goal.returns
returns c = λ base args heap depth fuel elaborated shaped well number. code_follows base elaborated shaped args heap depth fuel well number
