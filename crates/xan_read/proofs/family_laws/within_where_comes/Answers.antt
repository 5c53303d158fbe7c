use Rattle.xan_read.proofs.TableLaws.{within-where_comes}
use Rattle.xan_read.proofs.family_laws.within_where_comes.Goals as goal

pub returns : goal.returns
returns g c = λ most slack inner table first second narrow stops. within-where_comes most slack inner table _ _ _ _ _ _ first second narrow stops
