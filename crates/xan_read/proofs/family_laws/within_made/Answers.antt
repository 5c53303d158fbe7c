use Rattle.xan_read.proofs.RoomLaws.{within-made}
use Rattle.xan_read.proofs.family_laws.within_made.Goals as goal

pub returns : goal.returns
returns g c = λ most slack make exact. within-made most slack make _ _ _ exact
