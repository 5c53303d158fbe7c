use Rattle.three_address.proofs.LabelColumns.{mark_is_live}
use Rattle.three_address.proofs.laws.marks_at_labels_are_live.Goals as goal

pub returns : goal.returns
returns c = mark_is_live
