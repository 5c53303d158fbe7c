use Rattle.std.proofs.Common.{◌≡◌, ◌-◌, map}
use Rattle.xan_read.specs.Symbols.{repeated_from}
use Rattle.xanadu_lexer.specs.declared.symbol.Symbol.TheVariants as symbol
use Rattle.expression_parser.specs.Tables.{mark}
use Rattle.expression_parser.specs.Views.{behind_and}
use Rattle.expression_parser.specs.Expressions as spec
use Rattle.expression_parser.proofs.expressions.Levels.negations.Given as goal

abbrev pub invariant-loop-turn : goal.invariant-loop-turn
invariant-loop-turn g l = repeated_from (mark symbol.And) (spec.one_negation (spec.expression l.self.room)) (l._turn-end - l._turn) (map behind_and l.found.items) l.tokens ≡ spec.negations (spec.expression l.self.room) l.fn.tokens
