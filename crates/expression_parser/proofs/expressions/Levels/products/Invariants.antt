use Rattle.std.proofs.Common.{◌≡◌, ◌-◌, map}
use Rattle.xan_read.specs.Symbols.{repeated_from}
use Rattle.expression_parser.specs.Tables.{symbol_among, sum_operator}
use Rattle.expression_parser.specs.Views.{behind_sign}
use Rattle.expression_parser.specs.Expressions as spec
use Rattle.expression_parser.proofs.expressions.Levels.products.Given as goal

abbrev pub invariant-loop-turn : goal.invariant-loop-turn
invariant-loop-turn g l = repeated_from (symbol_among sum_operator) (spec.one_product (spec.expression l.self.room)) (l._turn-end - l._turn) (map behind_sign l.found.items) l.tokens ≡ spec.products (spec.expression l.self.room) l.fn.tokens
