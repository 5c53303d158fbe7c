use Rattle.std.proofs.Common.{◌≡◌, map, drop, max, cond}
use Rattle.header_elaborator.specs.Links.{link_of}
use Rattle.typed_core.specs.Places.{named_by_operands, named_by_links, result_put}
use Rattle.xanadu_tree.specs.PlainOf.{plain_expr, to_exprs, to_links}
use Rattle.header_elaborator.proofs.places.+named.Given as goal

abbrev pub invariant-named_by_operands-loop-e : goal.invariant-named_by_operands-loop-e
invariant-named_by_operands-loop-e l = max l.named (named_by_operands (to_exprs (map plain_expr (drop l.e-index l.es))) l.at) ≡ named_by_operands (to_exprs (map plain_expr l.es)) l.depth

abbrev pub invariant-named_by_links-loop-e : goal.invariant-named_by_links-loop-e
invariant-named_by_links-loop-e l = max l.named (max (cond l.is_behind (result_put (to_links (map link_of (drop l.e-index l.rest))) l.depth) 0) (named_by_links (to_links (map link_of (drop l.e-index l.rest))) l.is_left l.depth))
    ≡ named_by_links (to_links (map link_of l.rest)) l.left l.depth
