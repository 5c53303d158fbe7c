use Rattle.std.proofs.Common.{◌≡◌, ◌-◌, map}
use Rattle.xanadu_tree.specs.PlainTreeOf.{plain_declaration}
use Rattle.xanadu_parser.specs.Declarations as spec
use Rattle.xanadu_parser.proofs.declarations.declarations.Given as goal

abbrev pub invariant-loop-turn : goal.invariant-loop-turn
invariant-loop-turn l = spec.declarations_from l.room (l._turn-end - l._turn) (map plain_declaration l.found.items) l.tokens ≡ spec.declarations l.room l.fn.tokens
