use Rattle.std.proofs.Common.{◌≡◌, ◌≤◌, [], map, drop}
use Rattle.header_elaborator.specs.Links.{link_of}
use Rattle.expression_elaborator.specs.Views.{site_of, state_of}
use Rattle.typed_core.specs.Operands.{operands, chained}
use Rattle.xanadu_tree.specs.PlainOf.{plain_expr, to_exprs, to_links}
use Rattle.expression_elaborator.proofs.operands.+expression.Given as goal

abbrev pub invariant-operands-loop-e : goal.invariant-operands-loop-e
invariant-operands-loop-e l = (operands (site_of l.site) (to_exprs (map plain_expr (drop l.e-index l.es))) l.types.items (state_of l.st)
    ≡ operands (site_of l.site) (to_exprs (map plain_expr l.es)) [] (state_of l.fn.st)) × (l.fn.st.ctx.vars ≤ l.st.ctx.vars)

abbrev pub invariant-chained-loop-op : goal.invariant-chained-loop-op
invariant-chained-loop-op l = (chained (site_of l.site) (to_links (map link_of (drop l.op-index l.rest))) l.ty (state_of l.st)
    ≡ chained (site_of l.site) (to_links (map link_of l.rest)) l.fn.first (state_of l.fn.st)) × (l.fn.st.ctx.vars ≤ l.st.ctx.vars)
