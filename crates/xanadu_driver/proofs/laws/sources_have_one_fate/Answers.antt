use Rattle.xanadu_driver.proofs.FateLaws.{has_fate, one_fate}
use Rattle.xanadu_driver.proofs.laws.sources_have_one_fate.Goals as goal

pub returns : goal.returns
returns c = record { some = has_fate; one = one_fate }
