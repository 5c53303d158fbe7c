use Rattle.xan_read.proofs.SpelledLaws.{spelled_last}
use Rattle.xan_read.proofs.laws.spelled_last.Goals as goal

pub returns : goal.returns
returns g c = λ field make exact known same made. spelled_last field make _ _ _ _ _ exact known same made
