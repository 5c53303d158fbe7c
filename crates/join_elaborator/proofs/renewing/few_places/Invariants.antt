use Rattle.std.proofs.Common.{◌≡◌, length}
use Rattle.typed_core.specs.Joins.{few_places}
use Rattle.join_elaborator.proofs.renewing.few_places.Given as goal

abbrev pub invariant-loop-entries : goal.invariant-loop-entries
invariant-loop-entries l = few_places l.entries ≡ few_places l.fn.entries

abbrev pub decreases-loop-entries : goal.decreases-loop-entries
decreases-loop-entries l = length l.entries
