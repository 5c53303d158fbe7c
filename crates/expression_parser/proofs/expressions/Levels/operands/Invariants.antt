use Rattle.std.proofs.Common.{◌≡◌, ◌-◌, map}
use Rattle.xan_read.specs.Symbols.{repeated_from}
use Rattle.expression_parser.specs.Tables.{symbol_among, product_operator}
use Rattle.expression_parser.specs.Views.{behind_factor}
use Rattle.expression_parser.specs.Expressions as spec
use Rattle.expression_parser.proofs.expressions.Levels.operands.Given as goal

abbrev pub invariant-loop-turn : goal.invariant-loop-turn
invariant-loop-turn g l = repeated_from (symbol_among product_operator) (spec.one_operand (spec.expression l.self.room)) (l._turn-end - l._turn) (map behind_factor l.found.items) l.tokens ≡ spec.operands (spec.expression l.self.room) l.fn.tokens
