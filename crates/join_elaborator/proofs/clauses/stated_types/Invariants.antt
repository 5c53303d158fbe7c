use Rattle.std.proofs.Common.{◌≡◌, [], length, true}
use Rattle.std.specs.List.{list_all}
use Rattle.typed_core.specs.Joins.{stated_types}
use Rattle.typed_core.specs.Strays.{type_rises}
use Rattle.join_elaborator.proofs.clauses.stated_types.Given as goal

abbrev pub invariant-loop-stated : goal.invariant-loop-stated
invariant-loop-stated l = (stated_types l.naming l.own l.stated l.made.items ≡ stated_types l.naming l.own l.fn.stated []) × (list_all (λ s. type_rises s.1) l.stated ≡ true)

abbrev pub decreases-loop-stated : goal.decreases-loop-stated
decreases-loop-stated l = length l.stated
