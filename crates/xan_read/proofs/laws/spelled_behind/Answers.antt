use Rattle.xan_read.proofs.SpelledLaws.{spelled_behind}
use Rattle.xan_read.proofs.laws.spelled_behind.Goals as goal

pub returns : goal.returns
returns g c = λ text exact. spelled_behind text _ _ _ _ _ exact
