-- How a quantifier under way is seen.
use Rattle.type_shapes.specs.declared.frame.Frame as code
use Rattle.type_shapes.specs.Quantifiers.{Frame}

abbrev pub frame_of : code.Frame → Frame
frame_of frame = record { first = frame.first; next = frame.next; rows = frame.rows.items; indices = frame.indices.keys }
