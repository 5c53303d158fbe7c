use Rattle.xan_read.proofs.RoomLaws.{within-in_turn}
use Rattle.xan_read.proofs.family_laws.within_in_turn.Goals as goal

pub returns : goal.returns
returns g c = λ most slack inner first second narrow stops. within-in_turn most slack inner _ _ _ _ _ _ first second narrow stops
