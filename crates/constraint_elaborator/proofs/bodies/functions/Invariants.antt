use Rattle.std.proofs.Common.{◌≡◌, length, [], map}
use Rattle.typed_core.specs.Goals.{functions}
use Rattle.xanadu_tree.specs.PlainOf.{plain_fun}
use Rattle.constraint_elaborator.proofs.bodies.functions.Given as goal

abbrev pub invariant-loop-funs : goal.invariant-loop-funs
invariant-loop-funs l = functions l.table l.sigs l.number (map plain_fun l.funs) l.made.goals.items l.made.notes.items ≡ functions l.table l.sigs 0 (map plain_fun l.fn.funs) [] []

abbrev pub decreases-loop-funs : goal.decreases-loop-funs
decreases-loop-funs l = length l.funs
