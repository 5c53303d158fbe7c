use Rattle.three_address.proofs.LabelColumns.{SoFar}
use Rattle.three_address.proofs.labels.live_at_labels.Given as goal

abbrev pub invariant-places : goal.invariant-places
invariant-places l = SoFar l.fun l.place l.columns.items
