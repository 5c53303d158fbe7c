use Rattle.xanadu_lexer.proofs.ByRules.{lexed_by_rules}
use Rattle.xanadu_lexer.proofs.laws.lexed_by_the_rules.Goals as goal

pub returns : goal.returns
returns c = lexed_by_rules
