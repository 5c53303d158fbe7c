use Rattle.xan_read.proofs.SpelledLaws.{spelled_number}
use Rattle.xan_read.proofs.laws.spelled_number.Goals as goal

pub returns : goal.returns
returns c = spelled_number
