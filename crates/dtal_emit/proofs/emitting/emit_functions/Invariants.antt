use Rattle.std.proofs.Common.{◌≡◌, ◌++◌, length}
use Rattle.dtal_emit.specs.Emitted.{emitted_funs}
use Rattle.dtal_emit.proofs.emitting.emit_functions.Given as goal

abbrev pub invariant-functions : goal.invariant-functions
invariant-functions l = l.made.items ++ emitted_funs l.funs_left l.states_left l.edges_left l.homes_left ≡ emitted_funs l.funs l.states l.edges l.homes

abbrev pub decreases-functions : goal.decreases-functions
decreases-functions l = length l.funs_left
