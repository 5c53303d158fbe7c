use Rattle.std.proofs.Common.{rules, w64, FitsSigned, refl, ◌∙◌, ap, sym, map, pos, int_le, to_z, of_z}
use Rattle.std.proofs.lemmas.Int.{to_z-of_z}
use Rattle.proof_lines.specs.Rows.{floor_over}
use Rattle.solver_rows.specs.Divisors.{divisor}
use Rattle.solver_rows.specs.RowsInCells.{linear_in}
use Rattle.solver_rows.proofs.TightenedRows.{not_one, not_above, stays_tight, gets_tight}
use Rattle.solver_rows.proofs.tight.divide.Goals as goal

pub returns-then-by-le1-clause-row : goal.returns-then-by-le1-clause-row
returns-then-by-le1-clause-row c =
    let fits : FitsSigned w64 c.signed_divisor-by.result = search rules in
    stays_tight _ _ _ _ c.signed_divisor-by.result (c.signed_divisor-by.ensures ∙ ap (λ cells. pos (divisor (linear_in c.args.vars.now cells).terms)) c.as_slice.ensures.value)
    refl (ap (λ n. int_le n (pos 1)) (sym (to_z-of_z w64 c.signed_divisor-by.result fits)) ∙ c.if-by-le1.true)

pub returns-clause-row : goal.returns-clause-row
returns-clause-row c =
    let fits : FitsSigned w64 c.signed_divisor-by.result = search rules in
    (gets_tight _ _ _ _ _ _ c.requires.wide c.requires.rising (c.signed_divisor-by.ensures ∙ ap (λ cells. pos (divisor (linear_in c.args.vars.now cells).terms)) c.as_slice.ensures.value)
    (to_z-of_z w64 c.signed_divisor-by.result fits) (not_one _ c.if-by-le1.false) c.requires.small
    (c.divided-row.ensures ∙ ap (λ cells. map (λ cell. floor_over cell (to_z w64 (of_z w64 c.signed_divisor-by.result))) cells) c.as_slice-2.ensures.value)).row

pub returns-clause-small : goal.returns-clause-small
returns-clause-small c =
    let fits : FitsSigned w64 c.signed_divisor-by.result = search rules in
    (gets_tight _ _ _ c.args.source _ _ c.requires.wide c.requires.rising (c.signed_divisor-by.ensures ∙ ap (λ cells. pos (divisor (linear_in c.args.vars.now cells).terms)) c.as_slice.ensures.value)
    (to_z-of_z w64 c.signed_divisor-by.result fits) (not_one _ c.if-by-le1.false) c.requires.small
    (c.divided-row.ensures ∙ ap (λ cells. map (λ cell. floor_over cell (to_z w64 (of_z w64 c.signed_divisor-by.result))) cells) c.as_slice-2.ensures.value)).small

pub returns-then-by-le1-clause-divided : goal.returns-then-by-le1-clause-divided
returns-then-by-le1-clause-divided c =
    let fits : FitsSigned w64 c.signed_divisor-by.result = search rules in
    not_above _ _ _ c.signed_divisor-by.result (c.signed_divisor-by.ensures ∙ ap (λ cells. pos (divisor (linear_in c.args.vars.now cells).terms)) c.as_slice.ensures.value)
    refl (ap (λ n. int_le n (pos 1)) (sym (to_z-of_z w64 c.signed_divisor-by.result fits)) ∙ c.if-by-le1.true)

pub returns-clause-divided : goal.returns-clause-divided
returns-clause-divided c =
    let fits : FitsSigned w64 c.signed_divisor-by.result = search rules in
    (gets_tight _ _ _ c.args.source _ _ c.requires.wide c.requires.rising (c.signed_divisor-by.ensures ∙ ap (λ cells. pos (divisor (linear_in c.args.vars.now cells).terms)) c.as_slice.ensures.value)
    (to_z-of_z w64 c.signed_divisor-by.result fits) (not_one _ c.if-by-le1.false) c.requires.small
    (c.divided-row.ensures ∙ ap (λ cells. map (λ cell. floor_over cell (to_z w64 (of_z w64 c.signed_divisor-by.result))) cells) c.as_slice-2.ensures.value)).lowest
