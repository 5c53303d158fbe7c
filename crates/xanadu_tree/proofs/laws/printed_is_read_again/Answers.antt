use Rattle.xanadu_tree.proofs.LaidTrees.{printed-reads_alike}
use Rattle.xanadu_tree.proofs.laws.printed_is_read_again.Goals as goal

pub returns : goal.returns
returns c = printed-reads_alike
