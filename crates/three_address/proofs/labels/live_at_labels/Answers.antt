use Rattle.std.proofs.Common.{sym, subst}
use Rattle.three_address.proofs.LabelColumns.{SoFar, no_columns, one_more}
use Rattle.three_address.proofs.labels.live_at_labels.Goals as goal

pub places-init : goal.places-init
places-init c = subst (SoFar _ 0) (sym c.new-columns.ensures.items) (no_columns _)

pub places-preserved : goal.places-preserved
places-preserved c =
    subst (SoFar _ _) (sym c.in_ok-push.ensures.items) (one_more _ _ _ _ c.places.invariant c.in_ok-column_of.ensures)
