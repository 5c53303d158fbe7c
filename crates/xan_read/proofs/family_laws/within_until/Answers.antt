use Rattle.xan_read.proofs.UntilLaws.{within-until}
use Rattle.xan_read.proofs.family_laws.within_until.Goals as goal

pub returns : goal.returns
returns g c = λ most slack end exact last some apart next close. within-until most slack end _ _ _ exact last some apart next close _
