use Rattle.xan_read.proofs.NameLaws.{exact-name}
use Rattle.xan_read.proofs.laws.exact_name.Goals as goal

pub returns : goal.returns
returns c = exact-name
