use Rattle.std.proofs.Common.{◌∙◌, ap, sym, get_or, arith}
use Rattle.xan_pool.specs.Pool.{Pool}
use Rattle.linear_solver.proofs.Stores.{here, moves_live, moves_more, moves_end}
use Rattle.linear_solver.proofs.places.move_rows.Goals as goal

pub move_row-requires-clause-live : goal.move_row-requires-clause-live
move_row-requires-clause-live c =
    (moves_live _ _ _ _ _ _ _ (get_or c.args.rows.now c.rows.at _) c.rows.invariant.moves c.rows-test.true (here c.args.rows.now c.rows.at _ c.rows-test.true)).1

pub rows-preserved : goal.rows-preserved
rows-preserved c = record {
  moves = moves_more _ _ _ _ _ _ _ _ _ (get_or c.args.rows.now c.rows.at _) _ c.rows.invariant.moves c.rows-test.true (here c.args.rows.now c.rows.at _ c.rows-test.true)
      c.at_place.ensures c.put_stored.ensures.items (ap (λ p. p.rows) c.move_row.ensures);
  kept = c.move_row.ensures ∙ ap (λ rs. let q : Pool = record c.rows.pool { rows = rs } in q) (sym (ap (λ p. p.rows) c.move_row.ensures)) ∙ ap (λ p. let q : Pool = record p { rows = c.move_row.new.pool.rows } in q) c.rows.invariant.kept;
  capacity = omega (arith, c.rows.invariant.capacity, c.put_stored.ensures.capacity);
}

pub returns-clause-rows : goal.returns-clause-rows
returns-clause-rows c = (moves_end _ _ _ _ _ _ _ c.rows.invariant.moves c.rows-test.false).0

pub returns-clause-pool : goal.returns-clause-pool
returns-clause-pool c =
    c.rows.invariant.kept ∙ ap (λ rs. let q : Pool = record c.args.pool.now { rows = rs } in q) (moves_end _ _ _ _ _ _ _ c.rows.invariant.moves c.rows-test.false).1
