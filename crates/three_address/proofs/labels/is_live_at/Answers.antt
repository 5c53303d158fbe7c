use Rattle.three_address.proofs.LabelColumns.{none_past}
use Rattle.three_address.proofs.labels.is_live_at.Goals as goal

pub returns-in-None : goal.returns-in-None
returns-in-None c = none_past _ _ _ c.in-None.ensures.lookup.0
