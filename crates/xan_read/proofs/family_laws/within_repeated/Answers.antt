use Rattle.xan_read.proofs.RemainingLists.{within-repeated}
use Rattle.xan_read.proofs.family_laws.within_repeated.Goals as goal

pub returns : goal.returns
returns g c = λ most slack inner table found exact narrow next last. within-repeated most slack inner table _ _ _ _ exact narrow next last found
