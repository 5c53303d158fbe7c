use Rattle.std.proofs.Common.{◌≡◌, ◌+◌, map, drop}
use Rattle.value_lowering.specs.ChainParts.{link_of}
use Rattle.value_lowering.specs.ValueCode.{operands_size, links_size}
use Rattle.xanadu_tree.specs.PlainOf.{plain_expr, to_exprs, to_links}
use Rattle.lowering.proofs.sizes.+sizes.Given as goal

abbrev pub invariant-operands_size-loop-e : goal.invariant-operands_size-loop-e
invariant-operands_size-loop-e l =
    l.size + operands_size (to_exprs (map plain_expr (drop l.e-index l.es))) ≡ operands_size (to_exprs (map plain_expr l.es))

abbrev pub invariant-links_size-loop-e : goal.invariant-links_size-loop-e
invariant-links_size-loop-e l =
    l.size + links_size (to_links (map link_of (drop l.e-index l.rest))) ≡ links_size (to_links (map link_of l.rest))
