use Rattle.std.proofs.Common.{refl, ap, length, arith}
use Rattle.linear_solver.proofs.Makings.{open_kept, kept_more, sums_begin, sums_next, sums_limit, sums_end}
use Rattle.linear_solver.proofs.next.with_sums.Goals as goal

pub rows-init : goal.rows-init
rows-init c = sums_begin _ _ _ c.requires.few

pub with_row_sum-requires-clause-ready : goal.with_row_sum-requires-clause-ready
with_row_sum-requires-clause-ready c = open_kept _ _ _ c.rows.invariant.kept c.requires.ready

pub with_row_sum-requires-clause-few : goal.with_row_sum-requires-clause-few
with_row_sum-requires-clause-few c = c.rows.invariant.few

pub with_row_sum-requires-clause-live : goal.with_row_sum-requires-clause-live
with_row_sum-requires-clause-live c = omega (arith, c.requires.live, ap (λ w. length w.rows) c.rows.invariant.kept)

pub with_row_sum-requires-clause-other : goal.with_row_sum-requires-clause-other
with_row_sum-requires-clause-other c = omega (arith, c.rows-test.true, c.count-at-end.ensures, ap (λ w. length w.rows) c.rows.invariant.kept)

pub returns-in-Err-clause-made : goal.returns-in-Err-clause-made
returns-in-Err-clause-made c =
    sums_limit _ _ _ _ _ _ _ c.rows.invariant (omega (arith, c.rows-test.true, c.count-at-end.ensures)) (c.in-Err.ensures {u = tt}).made

pub returns-in-Err-clause-kept : goal.returns-in-Err-clause-kept
returns-in-Err-clause-kept c = kept_more c.args.work.now c.rows.work c.with_row_sum.new.work _ c.rows.invariant.kept (c.in-Err.ensures {u = tt}).kept

pub rows-preserved : goal.rows-preserved
rows-preserved c =
    let one = c.in-Ok.ensures {u = tt} in
    sums_next _ _ _ _ _ _ _ c.rows.invariant (omega (arith, c.rows-test.true, c.count-at-end.ensures)) one.made one.kept (one.few refl)

pub returns-clause-made : goal.returns-clause-made
returns-clause-made c = sums_end _ _ _ _ _ _ c.rows.invariant (omega (arith, c.rows-test.false, c.count-at-end.ensures))

pub returns-clause-kept : goal.returns-clause-kept
returns-clause-kept c = c.rows.invariant.kept
