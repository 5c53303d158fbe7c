use Rattle.std.proofs.Common.{◌≡◌, map, length}
use Rattle.type_carrier.specs.Carried.{functions, functions_of, no_functions}
use Rattle.type_carrier.specs.ProvedRows.{proofs_in}
use Rattle.xanadu_tree.specs.PlainOf.{plain_fun}
use Rattle.type_carrier.proofs.carrying.all_bodies.Given as goal

abbrev pub invariant-functions : goal.invariant-functions
invariant-functions l =
    functions (proofs_in l.goals l.lines) (map plain_fun l.funs_left) l.columns_left (functions_of l.states.items l.edges.items l.rest)
    ≡ functions (proofs_in l.goals l.lines) (map plain_fun l.funs) l.all (no_functions l.notes)

abbrev pub decreases-functions : goal.decreases-functions
decreases-functions l = length l.funs_left
