use Rattle.scope_shapes.proofs.ShapedPrograms.{shape_is_shaped}
use Rattle.scope_shapes.proofs.laws.shapes_are_shaped.Goals as goal

pub returns : goal.returns
returns c = shape_is_shaped
