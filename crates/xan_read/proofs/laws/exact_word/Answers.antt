use Rattle.xan_read.proofs.WordLaws.{exact-word}
use Rattle.xan_read.proofs.laws.exact_word.Goals as goal

pub returns : goal.returns
returns g c = λ entry table free. exact-word entry table free
