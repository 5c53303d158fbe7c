use Rattle.std.proofs.Common.{ap, [], length, get_or, arith}
use Rattle.solver_rows.specs.declared.source.Sign.TheVariants.{Zero}
use Rattle.linear_solver.specs.Systems.{with_sign}
use Rattle.linear_solver.proofs.RowCounts.{with_sign-few}
use Rattle.linear_solver.proofs.Room.{reduced-more}
use Rattle.linear_solver.proofs.next.next_rows.Goals as goal

pub with_all_sums-requires-clause-few : goal.with_all_sums-requires-clause-few
with_all_sums-requires-clause-few c =
    let var = get_or c.args.work.now.vars c.args.column 0 in
    omega (arith, ap (λ w. length w.made) c.keep_without.ensures, reduced-more [] (with_sign Zero var c.args.work.now.rows), with_sign-few Zero var c.args.work.now.rows, c.requires.ready.few)
