use Rattle.std.proofs.Common.{◌≡◌, length, map}
use Rattle.typed_core.specs.Headers.{few_parameters}
use Rattle.xanadu_tree.specs.PlainOf.{plain_fun}
use Rattle.header_elaborator.proofs.headers.few_parameters.Given as goal

abbrev pub invariant-loop-funs : goal.invariant-loop-funs
invariant-loop-funs l = few_parameters (map plain_fun l.funs) ≡ few_parameters (map plain_fun l.fn.funs)

abbrev pub decreases-loop-funs : goal.decreases-loop-funs
decreases-loop-funs l = length l.funs
