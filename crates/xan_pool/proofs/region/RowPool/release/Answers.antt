use Rattle.std.proofs.Common.{◌*◌, length, ◌∙◌, ap, arith}
use Rattle.std.proofs.lemmas.List.{length-take-le}
use Rattle.xan_pool.proofs.Pools.{live_is, rows_within, released_is}
use Rattle.xan_pool.proofs.region.RowPool.release.Goals as goal

pub overflow_mul-to : goal.overflow_mul-to
overflow_mul-to c =
    let live = live_is c.self.inside c.args.self.now c.self.view_is in
    omega (arith, rows_within c.args.to.0 c.self.inside.capacity c.self.inside.width (omega (arith, c.self.invariant.within)), c.self.invariant.small)

pub invariant_of-self : goal.invariant_of-self
invariant_of-self c =
    let live = live_is c.self.inside c.args.self.now c.self.view_is in
    let kept = rows_within c.args.to.0 c.self.inside.live c.self.inside.width (omega arith) in
    record {
      some_cells = c.self.invariant.some_cells;
      few_cells = c.self.invariant.few_cells;
      within = omega (arith, c.self.invariant.within);
      filled = ap length c.truncate.ensures.items ∙ length-take-le (c.args.to.0 * c.self.inside.width) c.self.inside.cells.items (omega (arith, c.self.invariant.filled));
      small = c.self.invariant.small;
      room = omega (arith, c.truncate.ensures.capacity, c.self.invariant.room);
    }

pub returns : goal.returns
returns c =
    let live = live_is c.self.inside c.args.self.now c.self.view_is in
    released_is c.self.inside c.args.self.now c.args.to.0 _ c.self.view_is c.self.invariant.filled (omega arith) c.truncate.ensures.items
