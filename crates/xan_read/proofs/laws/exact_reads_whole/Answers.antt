use Rattle.xan_read.proofs.ReaderLaws.{reads_whole}
use Rattle.xan_read.proofs.laws.exact_reads_whole.Goals as goal

pub returns : goal.returns
returns g c = λ exact stops. reads_whole _ _ _ exact stops
