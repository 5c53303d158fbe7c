use Rattle.xan_lin.proofs.ResultValues.{excess-value}
use Rattle.xan_lin.proofs.laws.excess_takes_the_difference_less_one.Goals as goal

pub returns : goal.returns
returns c = λ values e f r h. excess-value values e f r h
