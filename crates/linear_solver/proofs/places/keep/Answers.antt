use Rattle.std.proofs.Common.{get_or, arith}
use Rattle.linear_solver.proofs.Stores.{here, kept_few, without_more, without_all}
use Rattle.linear_solver.proofs.places.keep.Goals as goal

pub rows-preserved : goal.rows-preserved
rows-preserved c = record {
  same = without_more _ _ c.args.rows.now _ _ _ (get_or c.args.rows.now c.rows.at _) c.rows-test.true (here c.args.rows.now c.rows.at _ c.rows-test.true) c.keep_one.ensures.items c.rows.invariant.same;
  few = omega (arith, c.rows.invariant.few, kept_few _ _ _ _ c.keep_one.ensures.items);
  capacity = omega (arith, c.rows.invariant.capacity, c.keep_one.ensures.capacity);
}

pub returns-clause-items : goal.returns-clause-items
returns-clause-items c = without_all _ c.rows.at c.args.rows.now _ _ c.rows-test.false c.rows.invariant.same
