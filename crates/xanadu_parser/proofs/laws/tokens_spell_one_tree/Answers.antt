use Rattle.xanadu_parser.proofs.ParsedPrograms.{one_tree}
use Rattle.xanadu_parser.proofs.laws.tokens_spell_one_tree.Goals as goal

pub returns : goal.returns
returns c = λ tokens end tree other p q. one_tree tokens end tree other p q
