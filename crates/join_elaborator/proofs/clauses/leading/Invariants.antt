use Rattle.std.proofs.Common.{◌≡◌, length, ◌++◌}
use Rattle.typed_core.specs.Joins.{leading}
use Rattle.join_elaborator.proofs.clauses.leading.Given as goal

abbrev pub invariant-loop-rows : goal.invariant-loop-rows
invariant-loop-rows l = l.made.items ++ leading l.rows ≡ leading l.fn.rows

abbrev pub decreases-loop-rows : goal.decreases-loop-rows
decreases-loop-rows l = length l.rows
