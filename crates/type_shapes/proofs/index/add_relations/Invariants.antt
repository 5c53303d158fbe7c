use Rattle.std.proofs.Common.{◌≡◌, length, map}
use Rattle.xanadu_tree.specs.PlainTreeOf.{plain_relation}
use Rattle.type_shapes.specs.Linears.{relations_in}
use Rattle.type_shapes.proofs.index.add_relations.Given as goal

abbrev pub invariant-loop-relations : goal.invariant-loop-relations
invariant-loop-relations l = relations_in l.scope (map plain_relation l.relations) l.rows.items ≡ relations_in l.scope (map plain_relation l.fn.relations) l.fn.rows.items

abbrev pub decreases-loop-relations : goal.decreases-loop-relations
decreases-loop-relations l = length l.relations
