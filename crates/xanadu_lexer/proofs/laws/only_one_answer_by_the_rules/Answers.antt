use Rattle.xanadu_lexer.proofs.OnlyRules.{lexed_only}
use Rattle.xanadu_lexer.proofs.laws.only_one_answer_by_the_rules.Goals as goal

pub returns : goal.returns
returns c = lexed_only
