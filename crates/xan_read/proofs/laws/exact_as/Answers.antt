use Rattle.xan_read.proofs.ReaderLaws.{exact_as}
use Rattle.xan_read.proofs.laws.exact_as.Goals as goal

pub returns : goal.returns
returns g c = λ exact into back ends. exact_as _ _ _ _ _ exact into back ends
