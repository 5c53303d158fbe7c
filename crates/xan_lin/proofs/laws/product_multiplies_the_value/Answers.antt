use Rattle.xan_lin.proofs.ResultValues.{product-value}
use Rattle.xan_lin.proofs.laws.product_multiplies_the_value.Goals as goal

pub returns : goal.returns
returns c = λ values e r by h. product-value values e r by h
