use Rattle.xanadu_lexer.proofs.Spelled.{lexed_spelled}
use Rattle.xanadu_lexer.proofs.laws.tokens_are_spelled.Goals as goal

pub returns : goal.returns
returns c = lexed_spelled
