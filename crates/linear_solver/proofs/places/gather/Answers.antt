use Rattle.std.proofs.Common.{◌∙◌, ◌++◌, ap, length, arith}
use Rattle.linear_solver.specs.Region.{moved, placed_from}
use Rattle.linear_solver.proofs.Stores.{in-bound, length-moved, length-placed, gathered}
use Rattle.linear_solver.proofs.places.gather.Goals as goal

pub slide-requires-clause-order : goal.slide-requires-clause-order
slide-requires-clause-order c =
    let all = ap length (c.move_rows.ensures.rows ∙ ap (λ xs. xs ++ placed_from c.args.base c.as_slice.result.now) c.requires.none) in
    omega (
      arith,
      c.len-count.ensures,
      c.move_rows.new.placed.ok,
      all,
      length-placed c.args.base c.as_slice.result.now,
      ap length c.as_slice.ensures.value,
      c.mark-end.ensures.live,
      ap (λ p. length p.rows) c.move_rows.ensures.pool,
      length-moved c.args.base c.args.pool.now.rows c.as_slice.result.now,
      in-bound c.args.base (length c.args.pool.now.rows) c.args.rows.now.items c.requires.live,
    )

pub overflow_add-base : goal.overflow_add-base
overflow_add-base c =
    let all = ap length (c.move_rows.ensures.rows ∙ ap (λ xs. xs ++ placed_from c.args.base c.as_slice.result.now) c.requires.none) in
    omega (
      arith,
      c.mark-end.type_inv,
      c.len-count.ensures,
      c.move_rows.new.placed.ok,
      all,
      length-placed c.args.base c.as_slice.result.now,
      ap length c.as_slice.ensures.value,
      c.mark-end.ensures.live,
      ap (λ p. length p.rows) c.move_rows.ensures.pool,
      length-moved c.args.base c.args.pool.now.rows c.as_slice.result.now,
      in-bound c.args.base (length c.args.pool.now.rows) c.args.rows.now.items c.requires.live,
    )

pub returns-clause-pool : goal.returns-clause-pool
returns-clause-pool c =
    let all = ap length (c.move_rows.ensures.rows ∙ ap (λ xs. xs ++ placed_from c.args.base c.as_slice.result.now) c.requires.none) in
    gathered c.args.pool.now c.move_rows.new.pool c.slide.new.self (moved c.args.base c.args.pool.now.rows c.args.rows.now.items) _ _ _
    (c.move_rows.ensures.pool ∙ ap (λ ss. record c.args.pool.now { rows = moved c.args.base c.args.pool.now.rows ss }) c.as_slice.ensures.value)
    c.slide.ensures c.mark-end.ensures.live
    (omega (arith, c.len-count.ensures, c.move_rows.new.placed.ok, all, length-placed c.args.base c.as_slice.result.now, ap length c.as_slice.ensures.value))
