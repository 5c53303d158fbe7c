use Rattle.xan_read.proofs.NumberLaws.{exact-number}
use Rattle.xan_read.proofs.laws.exact_number.Goals as goal

pub returns : goal.returns
returns c = exact-number
