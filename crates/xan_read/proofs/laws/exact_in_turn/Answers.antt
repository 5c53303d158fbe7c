use Rattle.xan_read.proofs.ReaderLaws.{exact-in_turn}
use Rattle.xan_read.proofs.laws.exact_in_turn.Goals as goal

pub returns : goal.returns
returns g c = λ first second stops. exact-in_turn _ _ _ _ _ _ first second stops
