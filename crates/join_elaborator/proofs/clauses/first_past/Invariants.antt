use Rattle.std.proofs.Common.{◌≡◌, length}
use Rattle.typed_core.specs.Joins.{first_past}
use Rattle.join_elaborator.proofs.clauses.first_past.Given as goal

abbrev pub invariant-loop-rows : goal.invariant-loop-rows
invariant-loop-rows l = first_past l.rows ≡ first_past l.fn.rows

abbrev pub decreases-loop-rows : goal.decreases-loop-rows
decreases-loop-rows l = length l.rows
