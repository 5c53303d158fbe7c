use Rattle.std.proofs.Common.{◌≡◌, length, [], map}
use Rattle.typed_core.specs.Headers.{signatures}
use Rattle.xanadu_tree.specs.PlainOf.{plain_fun}
use Rattle.header_elaborator.proofs.headers.signatures.Given as goal

abbrev pub invariant-loop-funs : goal.invariant-loop-funs
invariant-loop-funs l = signatures (map plain_fun l.funs) l.made.items ≡ signatures (map plain_fun l.fn.funs) []

abbrev pub decreases-loop-funs : goal.decreases-loop-funs
decreases-loop-funs l = length l.funs
