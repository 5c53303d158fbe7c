use Rattle.std.proofs.Common.{◌≡◌, ◌-◌, ◌+◌, ◌*◌, map}
use Rattle.xanadu_lexer.specs.declared.symbol.Symbol.TheVariants as symbol
use Rattle.xanadu_tree.specs.PlainTreeOf.{plain_statement}
use Rattle.xan_read.specs.Symbols.{until_from}
use Rattle.expression_parser.specs.Tables.{mark}
use Rattle.xanadu_parser.specs.Statements as spec
use Rattle.xanadu_parser.proofs.statements.+block.Given as goal

abbrev pub decreases-block : goal.decreases-block
decreases-block l = 5 * l.room

abbrev pub decreases-otherwise : goal.decreases-otherwise
decreases-otherwise l = 5 * l.room + 1

abbrev pub decreases-branches : goal.decreases-branches
decreases-branches l = 5 * l.room + 2

abbrev pub decreases-repeated : goal.decreases-repeated
decreases-repeated l = 5 * l.room + 2

abbrev pub decreases-statement : goal.decreases-statement
decreases-statement l = 5 * l.room + 3

abbrev pub decreases-statements : goal.decreases-statements
decreases-statements l = 5 * l.room + 4

abbrev pub invariant-statements-loop-turn : goal.invariant-statements-loop-turn
invariant-statements-loop-turn l = until_from (mark symbol.RightBrace) (spec.statement l.room (spec.block l.room)) (l._turn-end - l._turn) (map plain_statement l.found.items) l.tokens
    ≡ spec.statements l.room (spec.block l.room) l.fn.tokens
