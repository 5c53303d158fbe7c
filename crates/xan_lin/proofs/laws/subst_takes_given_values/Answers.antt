use Rattle.xan_lin.proofs.SubstitutedValues.{subst-value}
use Rattle.xan_lin.proofs.laws.subst_takes_given_values.Goals as goal

pub returns : goal.returns
returns c = λ assignment given values below e form gives h. subst-value assignment given values below e form gives h
