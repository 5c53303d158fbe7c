use Rattle.std.proofs.Common.{◌*◌, length, sym, ◌∙◌, ap, arith, Some, take, drop}
use Rattle.xan_pool.proofs.Pools.{live_is, row_within, row_is, length-row}
use Rattle.xan_pool.proofs.region.RowPool.row.Goals as goal

pub row_at-requires : goal.row_at-requires
row_at-requires c =
    let live = live_is c.self.inside c.args.self.now c.self.view_is in
    let cells = ap length c.as_slice.ensures.value in
    omega (arith, row_within c.args.id.0 c.self.inside.live c.self.inside.width (omega arith), c.self.invariant.filled)

pub returns-clause-cells : goal.returns-clause-cells
returns-clause-cells c =
    row_is c.self.inside c.args.self.now c.args.id.0 c.self.view_is c.requires
    ∙ ap (λ row. Some row) (sym (c.row_at.ensures ∙ ap (λ xs. take c.self.inside.width (drop (c.args.id.0 * c.self.inside.width) xs)) c.as_slice.ensures.value))

pub returns-clause-width : goal.returns-clause-width
returns-clause-width c =
    ap length (c.row_at.ensures ∙ ap (λ xs. take c.self.inside.width (drop (c.args.id.0 * c.self.inside.width) xs)) c.as_slice.ensures.value)
    ∙ length-row c.self.inside c.args.self.now c.args.id.0 c.self.view_is c.self.invariant.filled c.requires
