use Rattle.carrier_laws.proofs.CarriedFunctions.{carried_typed}
use Rattle.carrier_laws.proofs.laws.carried_code_is_typed.Goals as goal

pub returns : goal.returns
returns c = λ program typed shaped is proved carries. carried_typed program shaped is proved typed carries
