use Rattle.xanadu_tree.proofs.ShapedFacts.{one_kind}
use Rattle.xanadu_tree.proofs.core_laws.kinds_are_unique.Goals as goal

pub returns : goal.returns
returns c = one_kind
