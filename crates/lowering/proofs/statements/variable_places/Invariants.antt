use Rattle.std.proofs.Common.{◌≡◌, take}
use Rattle.lowering.proofs.statements.variable_places.Given as goal

abbrev pub invariant-loop-x : goal.invariant-loop-x
invariant-loop-x l = l.places.items ≡ take l.x-index l.variables
