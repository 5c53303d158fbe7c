use Rattle.xan_read.proofs.ListLaws.{exact-closed}
use Rattle.xan_read.proofs.laws.exact_closed.Goals as goal

pub returns : goal.returns
returns g c = λ b end room exact next apart last begins. exact-closed b _ _ _ exact next end apart last begins room
