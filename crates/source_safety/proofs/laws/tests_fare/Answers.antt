use Rattle.source_safety.proofs.TestsFare.{tested_fares}
use Rattle.source_safety.proofs.laws.tests_fare.Goals as goal

pub returns : goal.returns
returns g c = λ site call env test st sides assignment run setting calls is goals stands. tested_fares site setting call calls env test st sides is goals assignment run stands
