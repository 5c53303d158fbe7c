use Rattle.xan_read.proofs.ListLaws.{exact-separated}
use Rattle.xan_read.proofs.laws.exact_separated.Goals as goal

pub returns : goal.returns
returns g c = λ b room exact next. exact-separated b _ _ _ exact next room
