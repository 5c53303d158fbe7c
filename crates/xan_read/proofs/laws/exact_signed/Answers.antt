use Rattle.xan_read.proofs.IntegerLaws.{exact-signed}
use Rattle.xan_read.proofs.laws.exact_signed.Goals as goal

pub returns : goal.returns
returns c = exact-signed
