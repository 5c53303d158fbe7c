use Rattle.std.proofs.Common.{◌≡◌, ◌-◌, map}
use Rattle.xan_read.specs.Symbols.{repeated_from}
use Rattle.xanadu_lexer.specs.declared.symbol.Symbol.TheVariants as symbol
use Rattle.expression_parser.specs.Tables.{mark}
use Rattle.expression_parser.specs.Views.{behind_or}
use Rattle.expression_parser.specs.Expressions as spec
use Rattle.expression_parser.proofs.expressions.Levels.conjunctions.Given as goal

abbrev pub invariant-loop-turn : goal.invariant-loop-turn
invariant-loop-turn g l = repeated_from (mark symbol.Or) (spec.one_conjunction (spec.expression l.self.room)) (l._turn-end - l._turn) (map behind_or l.found.items) l.tokens ≡ spec.conjunctions (spec.expression l.self.room) l.fn.tokens
