use Rattle.std.proofs.Common.{◌≡◌, length}
use Rattle.typed_core.specs.Joins.{is_named}
use Rattle.join_elaborator.proofs.changes.is_named.Given as goal

abbrev pub invariant-loop-stated : goal.invariant-loop-stated
invariant-loop-stated l = is_named l.x l.stated ≡ is_named l.x l.fn.stated

abbrev pub decreases-loop-stated : goal.decreases-loop-stated
decreases-loop-stated l = length l.stated
