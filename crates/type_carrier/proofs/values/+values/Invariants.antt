use Rattle.std.proofs.Common.{◌≡◌, map, drop}
use Rattle.value_lowering.specs.ChainParts.{link_of}
use Rattle.type_carrier.specs.CarriedValues.{carried, operands, links}
use Rattle.type_carrier.specs.Views.{proofs_of}
use Rattle.xanadu_tree.specs.PlainOf.{plain_expr, to_exprs, to_links}
use Rattle.type_carrier.proofs.values.+values.Given as goal

abbrev pub invariant-operands-loop-e : goal.invariant-operands-loop-e
invariant-operands-loop-e l =
    operands (proofs_of l.site) (to_exprs (map plain_expr (drop l.e-index l.es))) (carried l.edges.items l.left)
    ≡ operands (proofs_of l.site) (to_exprs (map plain_expr l.es)) (carried l.fn.edges.items l.notes)

abbrev pub invariant-links-loop-op : goal.invariant-links-loop-op
invariant-links-loop-op l =
    links (proofs_of l.site) (to_links (map link_of (drop l.op-index l.rest))) (carried l.edges.items l.left)
    ≡ links (proofs_of l.site) (to_links (map link_of l.rest)) (carried l.fn.edges.items l.notes)
