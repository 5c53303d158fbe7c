use Rattle.std.proofs.Common.{ap, length, None, arith}
use Rattle.linear_solver.specs.Choosing.{best_from}
use Rattle.linear_solver.proofs.Passes.{best_more, best_all}
use Rattle.linear_solver.proofs.choose.best.Goals as goal

pub columns-preserved : goal.columns-preserved
columns-preserved c =
    best_more c.args.work.now.rows c.columns.best c.candidate.result c.better-best.result (best_from c.args.work.now.rows None c.args.work.now.vars) c.args.work.now.vars c.columns.column
    (omega (arith, c.columns-test.true, ap length c.vars-count.ensures.vars)) c.candidate.ensures c.better-best.ensures c.columns.invariant

pub returns : goal.returns
returns c =
    best_all c.args.work.now.rows c.columns.best (best_from c.args.work.now.rows None c.args.work.now.vars) c.args.work.now.vars c.columns.column
    (omega (arith, c.columns-test.false, ap length c.vars-count.ensures.vars)) c.columns.invariant
