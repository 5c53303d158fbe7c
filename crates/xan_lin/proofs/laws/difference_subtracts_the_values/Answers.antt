use Rattle.xan_lin.proofs.ResultValues.{difference-value}
use Rattle.xan_lin.proofs.laws.difference_subtracts_the_values.Goals as goal

pub returns : goal.returns
returns c = λ values e f r h. difference-value values e f r h
