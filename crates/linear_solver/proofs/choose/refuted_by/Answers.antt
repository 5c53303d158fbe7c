use Rattle.std.proofs.Common.{arith}
use Rattle.linear_solver.proofs.Passes.{refuted_here, refuted_later, refuted_never}
use Rattle.linear_solver.proofs.choose.refuted_by.Goals as goal

pub returns-then-cannot_hold : goal.returns-then-cannot_hold
returns-then-cannot_hold c =
    refuted_here c.args.work.now.rows c.rows.at _ _ (omega (arith, c.rows-test.true, c.count-at-end.ensures)) c.cannot_hold.ensures c.if-cannot_hold.true c.line.ensures c.rows.invariant

pub rows-preserved : goal.rows-preserved
rows-preserved c = refuted_later c.args.work.now.rows c.rows.at _ (omega (arith, c.rows-test.true, c.count-at-end.ensures)) c.cannot_hold.ensures c.if-cannot_hold.false c.rows.invariant

pub returns : goal.returns
returns c = refuted_never c.args.work.now.rows c.rows.at (omega (arith, c.rows-test.false, c.count-at-end.ensures)) c.rows.invariant
