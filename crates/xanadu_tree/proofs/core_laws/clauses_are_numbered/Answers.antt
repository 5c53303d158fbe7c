use Rattle.xanadu_tree.proofs.ShapedFacts.{all_numbers}
use Rattle.xanadu_tree.proofs.core_laws.clauses_are_numbered.Goals as goal

pub returns : goal.returns
returns c = all_numbers
