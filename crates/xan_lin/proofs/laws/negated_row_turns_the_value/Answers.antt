use Rattle.xan_lin.proofs.ResultValues.{negated_row-value}
use Rattle.xan_lin.proofs.laws.negated_row_turns_the_value.Goals as goal

pub returns : goal.returns
returns c = λ values e r h. negated_row-value values e r h
