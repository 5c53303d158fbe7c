use Rattle.std.proofs.Common.{◌≡◌, length, map}
use Rattle.xanadu_tree.specs.PlainTreeOf.{plain_parameter}
use Rattle.type_shapes.specs.FrameOf.{frame_of}
use Rattle.expression_shapes.specs.SitesOf.{locals_of}
use Rattle.scope_shapes.specs.Statements.{clause_variables}
use Rattle.type_shapes.specs.TypesOf.{types_of}
use Rattle.scope_shapes.proofs.clause.add_different_variables.Given as goal

abbrev pub invariant-loop-parameters : goal.invariant-loop-parameters
invariant-loop-parameters l = clause_variables (types_of l.types) (locals_of l.locals) (map plain_parameter l.parameters) l.named.keys l.vars.items (frame_of l.frame)
    ≡ clause_variables (types_of l.types) (locals_of l.locals) (map plain_parameter l.fn.parameters) l.fn.named.keys l.fn.vars.items (frame_of l.fn.frame)

abbrev pub decreases-loop-parameters : goal.decreases-loop-parameters
decreases-loop-parameters l = length l.parameters
