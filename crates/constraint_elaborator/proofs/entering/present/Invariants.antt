use Rattle.std.proofs.Common.{◌≡◌, length, []}
use Rattle.typed_core.specs.Joins.{present}
use Rattle.constraint_elaborator.proofs.entering.present.Given as goal

abbrev pub invariant-loop-wanted : goal.invariant-loop-wanted
invariant-loop-wanted l = present l.places l.wanted l.types.items ≡ present l.places l.fn.wanted []

abbrev pub decreases-loop-wanted : goal.decreases-loop-wanted
decreases-loop-wanted l = length l.wanted
