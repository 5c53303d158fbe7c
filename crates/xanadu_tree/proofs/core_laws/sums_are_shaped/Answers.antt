use Rattle.xanadu_tree.proofs.ShapedSums.{sum_is_shaped}
use Rattle.xanadu_tree.proofs.core_laws.sums_are_shaped.Goals as goal

pub returns : goal.returns
returns c = sum_is_shaped
