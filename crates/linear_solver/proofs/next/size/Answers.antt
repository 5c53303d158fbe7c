use Rattle.std.proofs.Common.{rules, w64, FitsSigned, ◌≡◌, ◌∙◌, ap, get_or, unsigned_abs, arith}
use Rattle.std.proofs.lemmas.Int.{to_z-of_z}
use Rattle.solver_rows.specs.SystemRows.{coefficient}
use Rattle.linear_solver.specs.Region.{no_row}
use Rattle.linear_solver.proofs.SummedCells.{size_small}
use Rattle.linear_solver.proofs.next.size.Goals as goal

pub returns-clause-exact : goal.returns-clause-exact
returns-clause-exact c =
    let fits : FitsSigned w64 c.coefficient.result.now = search rules in
    c.unsigned_abs.ensures.value ∙ ap unsigned_abs (to_z-of_z w64 c.coefficient.result.now fits ∙ c.coefficient.ensures)

pub returns-clause-small : goal.returns-clause-small
returns-clause-small c =
    let fits : FitsSigned w64 c.coefficient.result.now = search rules in
    let e : c.unsigned_abs.result ≡ unsigned_abs (coefficient (get_or c.args.work.now.vars c.args.column 0) (get_or c.args.work.now.rows c.args.at no_row).terms) =
    c.unsigned_abs.ensures.value ∙ ap unsigned_abs (to_z-of_z w64 c.coefficient.result.now fits ∙ c.coefficient.ensures) in
    let small = size_small (get_or c.args.work.now.rows c.args.at no_row) (get_or c.args.work.now.vars c.args.column 0) c.coefficients-cells.ensures.small in
    omega arith
