use Rattle.xan_read.proofs.ReaderLaws.{exact-behind}
use Rattle.xan_read.proofs.laws.exact_behind.Goals as goal

pub returns : goal.returns
returns g c = λ text exact. exact-behind text _ _ _ exact
