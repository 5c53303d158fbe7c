use Rattle.std.proofs.Common.{rules, w64, FitsSigned, ◌≡◌, ◌∙◌, ◌∷◌, sym, ap, subst, get_or, true, List, ℕ, length, arith}
use Rattle.std.proofs.lemmas.Int.{to_z-of_z}
use Rattle.xan_lin.specs.Linear.{all_within}
use Rattle.solver_rows.specs.SystemRows.{size}
use Rattle.solver_rows.specs.RowsInCells.{linear_in}
use Rattle.linear_solver.specs.Region.{no_row}
use Rattle.linear_solver.proofs.SummedCells.{pair_of, past, small, sums_as, sum-wide}
use Rattle.linear_solver.proofs.next.sum_up.Goals as goal

pub returns-in_default : goal.returns-in_default
returns-in_default c =
    let p = pair_of c.args.work.now.vars c.vars-vars.result.now (c.constant.result.now ∷ c.coefficients.result.now) (c.constant-2.result.now ∷ c.coefficients-2.result.now) c.multipliers_for-by.result.first c.multipliers_for-by.result.second
    (size (get_or c.args.work.now.vars c.args.column 0) (get_or c.args.work.now.rows c.args.positive no_row)) (size (get_or c.args.work.now.vars c.args.column 0) (get_or c.args.work.now.rows c.args.negative no_row))
    c.size.result c.size-2.result (get_or c.args.work.now.rows c.args.positive no_row) (get_or c.args.work.now.rows c.args.negative no_row)
    c.vars-vars.ensures.vars c.vars-vars.ensures.rising
    (ap (λ n. linear_in c.args.work.now.vars (n ∷ c.coefficients.result.now)) c.constant.ensures ∙ c.coefficients.ensures.linear)
    (ap (λ n. linear_in c.args.work.now.vars (n ∷ c.coefficients-2.result.now)) c.constant-2.ensures ∙ c.coefficients-2.ensures.linear)
    (omega (arith, c.coefficients.ensures.wide)) (omega (arith, c.coefficients-2.ensures.wide))
    c.multipliers_for-by.ensures.first c.multipliers_for-by.ensures.second c.size.ensures.exact c.size-2.ensures.exact in
    past _ _ _ _ _ _ _ _ _ p (c.in_default.ensures {u = tt})

pub tighten-requires-clause-wide : goal.tighten-requires-clause-wide
tighten-requires-clause-wide c =
    let p = pair_of c.args.work.now.vars c.vars-vars.result.now (c.constant.result.now ∷ c.coefficients.result.now) (c.constant-2.result.now ∷ c.coefficients-2.result.now) c.multipliers_for-by.result.first c.multipliers_for-by.result.second
    (size (get_or c.args.work.now.vars c.args.column 0) (get_or c.args.work.now.rows c.args.positive no_row)) (size (get_or c.args.work.now.vars c.args.column 0) (get_or c.args.work.now.rows c.args.negative no_row))
    c.size.result c.size-2.result (get_or c.args.work.now.rows c.args.positive no_row) (get_or c.args.work.now.rows c.args.negative no_row)
    c.vars-vars.ensures.vars c.vars-vars.ensures.rising
    (ap (λ n. linear_in c.args.work.now.vars (n ∷ c.coefficients.result.now)) c.constant.ensures ∙ c.coefficients.ensures.linear)
    (ap (λ n. linear_in c.args.work.now.vars (n ∷ c.coefficients-2.result.now)) c.constant-2.ensures ∙ c.coefficients-2.ensures.linear)
    (omega (arith, c.coefficients.ensures.wide)) (omega (arith, c.coefficients-2.ensures.wide))
    c.multipliers_for-by.ensures.first c.multipliers_for-by.ensures.second c.size.ensures.exact c.size-2.ensures.exact in
    omega (arith, ap length (c.in-Some.ensures {u = tt}).0, sum-wide _ _ _ _ _ _ _ _ _ p, ap length c.vars-vars.ensures.vars)

pub tighten-requires-clause-small : goal.tighten-requires-clause-small
tighten-requires-clause-small c =
    let p = pair_of c.args.work.now.vars c.vars-vars.result.now (c.constant.result.now ∷ c.coefficients.result.now) (c.constant-2.result.now ∷ c.coefficients-2.result.now) c.multipliers_for-by.result.first c.multipliers_for-by.result.second
    (size (get_or c.args.work.now.vars c.args.column 0) (get_or c.args.work.now.rows c.args.positive no_row)) (size (get_or c.args.work.now.vars c.args.column 0) (get_or c.args.work.now.rows c.args.negative no_row))
    c.size.result c.size-2.result (get_or c.args.work.now.rows c.args.positive no_row) (get_or c.args.work.now.rows c.args.negative no_row)
    c.vars-vars.ensures.vars c.vars-vars.ensures.rising
    (ap (λ n. linear_in c.args.work.now.vars (n ∷ c.coefficients.result.now)) c.constant.ensures ∙ c.coefficients.ensures.linear)
    (ap (λ n. linear_in c.args.work.now.vars (n ∷ c.coefficients-2.result.now)) c.constant-2.ensures ∙ c.coefficients-2.ensures.linear)
    (omega (arith, c.coefficients.ensures.wide)) (omega (arith, c.coefficients-2.ensures.wide))
    c.multipliers_for-by.ensures.first c.multipliers_for-by.ensures.second c.size.ensures.exact c.size-2.ensures.exact in
    subst (λ (vs : List ℕ). all_within (linear_in vs c.combine.new.cells.items).terms ≡ true) (sym c.vars-vars.ensures.vars)
    (small _ _ _ _ _ _ _ _ _ p c.combine.new.cells.items (c.in-Some.ensures {u = tt}).0 (c.in-Some.ensures {u = tt}).1)

pub returns : goal.returns
returns c =
    let p = pair_of c.args.work.now.vars c.vars-vars.result.now (c.constant.result.now ∷ c.coefficients.result.now) (c.constant-2.result.now ∷ c.coefficients-2.result.now) c.multipliers_for-by.result.first c.multipliers_for-by.result.second
    (size (get_or c.args.work.now.vars c.args.column 0) (get_or c.args.work.now.rows c.args.positive no_row)) (size (get_or c.args.work.now.vars c.args.column 0) (get_or c.args.work.now.rows c.args.negative no_row))
    c.size.result c.size-2.result (get_or c.args.work.now.rows c.args.positive no_row) (get_or c.args.work.now.rows c.args.negative no_row)
    c.vars-vars.ensures.vars c.vars-vars.ensures.rising
    (ap (λ n. linear_in c.args.work.now.vars (n ∷ c.coefficients.result.now)) c.constant.ensures ∙ c.coefficients.ensures.linear)
    (ap (λ n. linear_in c.args.work.now.vars (n ∷ c.coefficients-2.result.now)) c.constant-2.ensures ∙ c.coefficients-2.ensures.linear)
    (omega (arith, c.coefficients.ensures.wide)) (omega (arith, c.coefficients-2.ensures.wide))
    c.multipliers_for-by.ensures.first c.multipliers_for-by.ensures.second c.size.ensures.exact c.size-2.ensures.exact in
    let fits : FitsSigned w64 c.multipliers_for-by.result.first = search rules in
    let fits_too : FitsSigned w64 c.multipliers_for-by.result.second = search rules in
    sums_as _ _ _ _ _ _ _ _ _ _ _ _ _ _ c.combine.new.cells.items c.tighten.new.row p c.vars-vars.ensures.vars (c.in-Some.ensures {u = tt}).0 (c.in-Some.ensures {u = tt}).1
    (to_z-of_z w64 c.multipliers_for-by.result.first fits) (to_z-of_z w64 c.multipliers_for-by.result.second fits_too) c.line.ensures c.line-2.ensures c.tighten.ensures.row c.tighten.ensures.wide c.tighten.ensures.small
    c.tighten.ensures.signed c.tighten.ensures.divided
