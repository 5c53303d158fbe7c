use Rattle.std.proofs.Common.{◌≡◌, length, ◌++◌}
use Rattle.typed_core.specs.Joins.{still_visible}
use Rattle.constraint_elaborator.proofs.entering.still_visible.Given as goal

abbrev pub invariant-loop-before : goal.invariant-loop-before
invariant-loop-before l = l.made.items ++ still_visible l.before l.after ≡ still_visible l.fn.before l.after

abbrev pub decreases-loop-before : goal.decreases-loop-before
decreases-loop-before l = length l.before
