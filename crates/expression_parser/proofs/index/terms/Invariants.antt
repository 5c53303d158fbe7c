use Rattle.std.proofs.Common.{◌≡◌, ◌-◌}
use Rattle.xan_read.specs.Symbols.{repeated_from}
use Rattle.expression_parser.specs.Tables.{symbol_among, sign}
use Rattle.expression_parser.specs.Index.{signed, terms}
use Rattle.expression_parser.proofs.index.terms.Given as goal

abbrev pub invariant-loop-turn : goal.invariant-loop-turn
invariant-loop-turn l = repeated_from (symbol_among sign) signed (l._turn-end - l._turn) l.found.items l.tokens ≡ terms l.fn.tokens
