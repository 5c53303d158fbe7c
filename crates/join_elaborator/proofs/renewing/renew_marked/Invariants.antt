use Rattle.std.proofs.Common.{◌≡◌, ◌≤◌, ◌+◌, length, []}
use Rattle.join_elaborator.specs.Changed.{is_marked}
use Rattle.join_elaborator.specs.JoinViews.{renewed_of}
use Rattle.typed_core.specs.Joins.{renewed}
use Rattle.join_elaborator.proofs.renewing.renew_marked.Given as goal

abbrev pub invariant-loop-entries : goal.invariant-loop-entries
invariant-loop-entries l = (renewed (is_marked l.marks) l.stated l.first l.entries (renewed_of l.made)
    ≡ renewed (is_marked l.marks) l.stated l.first l.fn.entries (record { types = []; others = [] })) × (length l.made.others.items + length l.entries ≤ 240)

abbrev pub decreases-loop-entries : goal.decreases-loop-entries
decreases-loop-entries l = length l.entries
