use Rattle.std.proofs.Common.{◌≡◌, ◌-◌, map}
use Rattle.xan_read.specs.Symbols.{repeated_from, separated}
use Rattle.xanadu_lexer.specs.declared.symbol.Symbol.TheVariants as symbol
use Rattle.expression_parser.specs.Tables.{mark}
use Rattle.expression_parser.proofs.lists.separated.Given as goal

abbrev pub invariant-loop-turn : goal.invariant-loop-turn
invariant-loop-turn g l = repeated_from (mark symbol.Comma) (λ _. g.T.Item.reader) (l._turn-end - l._turn) (map g.T.Item.view l.found.items) l.tokens ≡ separated (mark symbol.Comma) g.T.Item.reader l.fn.tokens
