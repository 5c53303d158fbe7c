use Rattle.std.proofs.Common.{[], ◌∙◌, ap₂}
use Rattle.three_address.specs.LiveLabels.{marks_onto}
use Rattle.three_address.proofs.LabelColumns.{column_is}
use Rattle.three_address.proofs.labels.column_of.Goals as goal

pub returns : goal.returns
returns c =
    column_is _ _ c.in_ok-marks.marks.items _ c.in_ok-marks.ensures
    (c.from_vec.ensures ∙ c.in_ok-found.ensures ∙ ap₂ (λ marks labels. marks_onto marks labels []) c.as_slice.ensures.value c.as_slice-2.ensures)
