use Rattle.std.proofs.Common.{◌≡◌, suc, ◌++◌, ◌-◌, map, drop, length}
use Rattle.value_lowering.specs.ChainParts.{link_of}
use Rattle.value_lowering.specs.Frames.{temporary}
use Rattle.value_lowering.specs.ValueCode.{operand_places, operands_code, links_code}
use Rattle.xanadu_tree.specs.PlainOf.{plain_expr, to_exprs, to_links}
use Rattle.value_lowering.proofs.values.+values.Given as goal

abbrev pub invariant-links-loop-op : goal.invariant-links-loop-op
invariant-links-loop-op l = record {
  count : l.many ≡ length l.rest - l.op-index;
  between : l.between ≡ temporary l.vars l.depth;
  deeper : l.deeper ≡ suc l.depth;
  code : l.code.items ++ links_code l.vars (to_links (map link_of (drop l.op-index l.rest))) l.at l.from l.depth l.to
      ≡ l.fn.code.items ++ links_code l.vars (to_links (map link_of l.rest)) l.next l.left l.depth l.to;
}

abbrev pub invariant-operands-loop-e : goal.invariant-operands-loop-e
invariant-operands-loop-e l = record {
  places : l.found.items ++ operand_places l.vars (to_exprs (map plain_expr (drop l.e-index l.es))) l.next
      ≡ operand_places l.vars (to_exprs (map plain_expr l.es)) l.depth;
  code : l.code.items ++ operands_code l.vars (to_exprs (map plain_expr (drop l.e-index l.es))) l.next
      ≡ l.fn.code.items ++ operands_code l.vars (to_exprs (map plain_expr l.es)) l.depth;
}
