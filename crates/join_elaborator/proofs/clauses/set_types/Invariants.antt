use Rattle.std.proofs.Common.{◌≡◌, length}
use Rattle.typed_core.specs.Joins.{with_types}
use Rattle.join_elaborator.proofs.clauses.set_types.Given as goal

abbrev pub invariant-loop-wanted : goal.invariant-loop-wanted
invariant-loop-wanted l = with_types l.wanted l.places ≡ with_types l.fn.wanted l.fn.places

abbrev pub decreases-loop-wanted : goal.decreases-loop-wanted
decreases-loop-wanted l = length l.wanted
