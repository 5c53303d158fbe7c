use Rattle.std.proofs.Common.{ap, sym, subst, length, arith}
use Rattle.linear_solver.specs.Region.{HasRoom}
use Rattle.linear_solver.proofs.Givings.{gives_begin, gives_next, gives_end, closed_at}
use Rattle.linear_solver.proofs.first.with_hyps.Goals as goal

pub rows-init : goal.rows-init
rows-init c = gives_begin _ _ c.requires.empty

pub with_hyp-requires-clause-closed : goal.with_hyp-requires-clause-closed
with_hyp-requires-clause-closed c =
    closed_at c.args.work.now c.rows.work c.args.hyps.now c.rows.at c.index-hyps-at.result c.requires.closed c.rows.invariant.kept c.rows-test.true c.index-hyps-at.is

pub with_hyp-requires-clause-none : goal.with_hyp-requires-clause-none
with_hyp-requires-clause-none c = omega (arith, ap length c.requires.none, ap (λ w. length w.rows) c.rows.invariant.kept)

pub with_hyp-requires-clause-few : goal.with_hyp-requires-clause-few
with_hyp-requires-clause-few c = omega (arith, c.rows.invariant.few, c.requires.few, c.rows.auto.at-end)

pub with_hyp-requires-clause-room : goal.with_hyp-requires-clause-room
with_hyp-requires-clause-room c = subst HasRoom (sym c.rows.invariant.kept) c.requires.room

pub rows-preserved : goal.rows-preserved
rows-preserved c =
    gives_next c.args.work.now c.rows.work c.with_hyp.new.work c.args.hyps.now _ c.rows.at c.index-hyps-at.result c.rows.invariant c.rows-test.true c.index-hyps-at.is c.with_hyp.ensures

pub returns : goal.returns
returns c = gives_end c.args.work.now c.rows.work c.args.hyps.now _ c.rows.at c.rows.invariant c.rows-test.false
