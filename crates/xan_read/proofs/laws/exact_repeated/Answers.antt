use Rattle.xan_read.proofs.ListLaws.{exact-repeated}
use Rattle.xan_read.proofs.laws.exact_repeated.Goals as goal

pub returns : goal.returns
returns g c = λ b room exact next. exact-repeated b _ _ _ exact next room
