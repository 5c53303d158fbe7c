use Rattle.std.proofs.Common.{get_or, arith}
use Rattle.solver_rows.specs.declared.source.Sign.TheVariants.{Positive, Negative}
use Rattle.linear_solver.proofs.RowCounts.{with_sign-few}
use Rattle.linear_solver.proofs.choose.candidate.Goals as goal

pub choice_of-requires-clause-positive : goal.choice_of-requires-clause-positive
choice_of-requires-clause-positive c =
    omega (arith, c.requires.positive, with_sign-few Positive (get_or c.args.work.now.vars c.args.column 0) c.args.work.now.rows, c.requires.few)

pub choice_of-requires-clause-negative : goal.choice_of-requires-clause-negative
choice_of-requires-clause-negative c =
    omega (arith, c.requires.negative, with_sign-few Negative (get_or c.args.work.now.vars c.args.column 0) c.args.work.now.rows, c.requires.few)
