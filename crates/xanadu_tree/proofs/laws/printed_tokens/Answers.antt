use Rattle.xanadu_tree.proofs.ReadBack.{printed-read_back}
use Rattle.xanadu_tree.proofs.laws.printed_tokens.Goals as goal

pub returns : goal.returns
returns c = printed-read_back
