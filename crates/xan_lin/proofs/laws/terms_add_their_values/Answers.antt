use Rattle.xan_lin.proofs.ResultValues.{terms-value}
use Rattle.xan_lin.proofs.laws.terms_add_their_values.Goals as goal

pub returns : goal.returns
returns c = λ values ts constant form h. terms-value values ts constant form h
