use Rattle.xanadu_tree.proofs.ReadTrees.{read_is_written}
use Rattle.xanadu_tree.proofs.laws.read_trees_are_written.Goals as goal

pub returns : goal.returns
returns c = read_is_written
