use Rattle.xan_lin.proofs.ResultValues.{sum-value}
use Rattle.xan_lin.proofs.laws.sum_adds_the_values.Goals as goal

pub returns : goal.returns
returns c = λ values e f r h. sum-value values e f r h
