use Rattle.std.proofs.Common.{◌≡◌, ◌+◌, ◌*◌, ◌++◌, length, ◌∙◌, ap, arith, take, drop}
use Rattle.std.proofs.lemmas.List.{with_items_is}
use Rattle.xan_pool.proofs.Pools.{live_is, width_is, row_within, set_is}
use Rattle.xan_pool.proofs.region.RowPool.set.Goals as goal

pub write_row-requires : goal.write_row-requires
write_row-requires c =
    let live = live_is c.self.inside c.args.self.now c.self.view_is in
    let cells = ap length c.as_mut_slice.ensures.value in
    let width = width_is c.self.inside c.args.self.now c.self.view_is in
    let whole : length c.args.row.now ≡ c.self.inside.width = c.requires.width ∙ width in
    omega (arith, row_within c.args.id.0 c.self.inside.live (length c.args.row.now) (omega arith), ap (λ w. c.self.inside.live * w) whole, c.self.invariant.filled)

pub returns : goal.returns
returns c =
    let live = live_is c.self.inside c.args.self.now c.self.view_is in
    set_is c.self.inside c.args.self.now c.args.id.0 _ c.args.row.now c.self.view_is c.self.invariant.filled (omega arith) (c.requires.width ∙ width_is c.self.inside c.args.self.now c.self.view_is)
    (with_items_is c.self.inside.cells c.write_row.new.cells (omega (arith, c.write_row.auto.cells, c.self.inside.cells.ok, ap length c.as_mut_slice.ensures.value))
    ∙ c.write_row.ensures
    ∙ ap (λ xs. take (c.args.id.0 * length c.args.row.now) xs ++ c.args.row.now ++ drop (c.args.id.0 * length c.args.row.now + length c.args.row.now) xs) c.as_mut_slice.ensures.value)
