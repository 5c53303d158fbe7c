use Rattle.xan_lin.proofs.SubstitutedValues.{subst-given_value}
use Rattle.xan_lin.proofs.laws.subst_takes_the_values.Goals as goal

pub returns : goal.returns
returns c = λ assignment values below vars e form named h. subst-given_value assignment values below vars e form named h
