use Rattle.std.proofs.Common.{map, rules}
use Rattle.xanadu_tree.specs.PlainTreeOf.{plain_tree}
use Rattle.expression_shapes.specs.SitesOf.{globals_of}
use Rattle.scope_shapes.specs.BodiesOf.{inner_of}
use Rattle.scope_shapes.proofs.ShapedPrograms.{walked_is_shaped}
use Rattle.scope_shapes.proofs.walk.resolve.Goals as goal

pub finish-requires : goal.finish-requires
finish-requires c =
    walked_is_shaped (plain_tree c.args.tree.now) c.args.end c.in_ok-main.main (map inner_of c.walk.new.bodies.items) (globals_of c.walk.new.program) c.requires (search rules)
