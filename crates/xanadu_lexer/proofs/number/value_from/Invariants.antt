use Rattle.std.proofs.Common.{◌≡◌, ◌^◌, ◌<◌, drop}
use Rattle.xanadu_lexer.specs.Spelling.{value_from}
use Rattle.xanadu_lexer.proofs.number.value_from.Given as goal

abbrev pub invariant-loop-digit : goal.invariant-loop-digit
invariant-loop-digit l = record { fits : l.number < 2 ^ 63; same : value_from l.number (drop l.digit-index l.digits) ≡ value_from l.fn.start l.digits }
