use Rattle.xan_read.proofs.ReaderLaws.{exact-give}
use Rattle.xan_read.proofs.laws.exact_give.Goals as goal

pub returns : goal.returns
returns g c = exact-give
