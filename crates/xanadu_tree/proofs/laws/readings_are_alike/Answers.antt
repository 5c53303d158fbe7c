use Rattle.xanadu_tree.proofs.ReadBack.{reading-alike}
use Rattle.xanadu_tree.proofs.laws.readings_are_alike.Goals as goal

pub returns : goal.returns
returns c = reading-alike
