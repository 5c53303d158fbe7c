use Rattle.std.proofs.Common.{length, refl, ◌∙◌, ap, arith}
use Rattle.xan_pool.proofs.Pools.{live_is, rows_within, length-cut, slid_is}
use Rattle.xan_pool.proofs.region.RowPool.slide.Goals as goal

pub overflow_mul-to : goal.overflow_mul-to
overflow_mul-to c =
    let live = live_is c.self.inside c.args.self.now c.self.view_is in
    omega (arith, rows_within c.args.to.0 c.self.inside.capacity c.self.inside.width (omega (arith, c.self.invariant.within, c.requires.order, c.requires.within)), c.self.invariant.small)

pub overflow_mul-from : goal.overflow_mul-from
overflow_mul-from c =
    let live = live_is c.self.inside c.args.self.now c.self.view_is in
    omega (arith, rows_within c.args.from.0 c.self.inside.capacity c.self.inside.width (omega (arith, c.self.invariant.within, c.requires.within)), c.self.invariant.small)

pub cut-requires-clause-order : goal.cut-requires-clause-order
cut-requires-clause-order c = rows_within c.args.to.0 c.args.from.0 c.self.inside.width c.requires.order

pub cut-requires-clause-within : goal.cut-requires-clause-within
cut-requires-clause-within c =
    let live = live_is c.self.inside c.args.self.now c.self.view_is in
    omega (arith, rows_within c.args.from.0 c.self.inside.live c.self.inside.width (omega (arith, c.requires.within)), c.self.invariant.filled, c.self.inside.cells.ok)

pub overflow_sub-self-2 : goal.overflow_sub-self-2
overflow_sub-self-2 c = omega (arith, live_is c.self.inside c.args.self.now c.self.view_is, c.requires.within)

pub invariant_of-self : goal.invariant_of-self
invariant_of-self c =
    let live = live_is c.self.inside c.args.self.now c.self.view_is in
    let front = rows_within c.args.to.0 c.self.inside.live c.self.inside.width (omega (arith, c.requires.order, c.requires.within)) in
    let back = rows_within c.args.from.0 c.self.inside.live c.self.inside.width (omega (arith, c.requires.within)) in
    record {
      some_cells = c.self.invariant.some_cells;
      few_cells = c.self.invariant.few_cells;
      within = omega (arith, c.self.invariant.within);
      filled = ap length c.cut.ensures.items ∙ length-cut c.args.to.0 c.args.from.0 c.self.inside.live c.self.inside.width c.self.inside.cells.items c.requires.order (omega (arith, c.requires.within)) c.self.invariant.filled;
      small = c.self.invariant.small;
      room = omega (arith, c.cut.ensures.capacity, c.self.invariant.room);
    }

pub returns : goal.returns
returns c =
    let live = live_is c.self.inside c.args.self.now c.self.view_is in
    slid_is c.self.inside c.args.self.now c.args.to.0 c.args.from.0 _ _ c.self.view_is c.self.invariant.filled c.requires.order (omega (arith, c.requires.within)) refl c.cut.ensures.items
