use Rattle.std.proofs.Common.{rules, w64, FitsSigned, ◌∙◌, ap, pos, arith}
use Rattle.std.proofs.lemmas.Int.{to_z-of_z}
use Rattle.solver_rows.proofs.SmallCoefficients.{divisor-small}
use Rattle.solver_rows.proofs.Sparse.{linear-divisor}
use Rattle.solver_rows.specs.RowsInCells.{linear_in}
use Rattle.solver_rows.proofs.divisors.signed_divisor.Goals as goal

pub signed-requires : goal.signed-requires
signed-requires c =
    let small = divisor-small (linear_in c.args.vars.now c.args.cells.now).terms c.requires.small in
    let e = c.divisor-common.ensures in
    let f = linear-divisor c.args.vars.now c.args.cells.now c.requires.wide in
    omega arith

pub returns : goal.returns
returns c =
    let fits : FitsSigned w64 c.signed.result = search rules in
    to_z-of_z w64 c.signed.result fits ∙ c.signed.ensures ∙ ap pos (c.divisor-common.ensures ∙ linear-divisor c.args.vars.now c.args.cells.now c.requires.wide)
