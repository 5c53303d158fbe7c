use Rattle.xan_read.proofs.ReaderLaws.{exact-by_next}
use Rattle.xan_read.proofs.laws.exact_by_next.Goals as goal

pub returns : goal.returns
returns g c = λ test first second passes stops. exact-by_next test _ _ _ _ _ _ first second passes stops
