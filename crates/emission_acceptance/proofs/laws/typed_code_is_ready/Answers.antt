use Rattle.emission_acceptance.proofs.CodeReady.{fun_ready}
use Rattle.emission_acceptance.proofs.laws.typed_code_is_ready.Goals as goal

pub returns : goal.returns
returns c = λ code number fun labels edges short there typed. fun_ready code number fun labels edges short there typed
