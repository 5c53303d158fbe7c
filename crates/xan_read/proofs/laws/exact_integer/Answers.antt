use Rattle.xan_read.proofs.IntegerLaws.{exact-integer}
use Rattle.xan_read.proofs.laws.exact_integer.Goals as goal

pub returns : goal.returns
returns c = exact-integer
