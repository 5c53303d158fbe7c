use Rattle.xanadu_tree.specs.PlainTreeOf.{plain_tree}
use Rattle.xanadu_parser.proofs.ParsedPrograms.{meaning}
use Rattle.xanadu_parser.proofs.parser.parse.Goals as goal

pub returns : goal.returns
returns c = meaning c.args.tokens.now c.args.end plain_tree c.answer.result c.answer.ensures
