use Rattle.xan_read.proofs.ReaderLaws.{exact-where_comes}
use Rattle.xan_read.proofs.laws.exact_where_comes.Goals as goal

pub returns : goal.returns
returns g c = λ b first second stops. exact-where_comes b _ _ _ _ _ _ first second stops
