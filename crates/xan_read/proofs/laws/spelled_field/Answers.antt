use Rattle.xan_read.proofs.SpelledLaws.{spelled_field}
use Rattle.xan_read.proofs.laws.spelled_field.Goals as goal

pub returns : goal.returns
returns g c = λ field front back stops. spelled_field field _ _ _ _ _ _ _ _ _ front back stops
