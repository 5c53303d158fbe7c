use Rattle.std.proofs.Common.{◌∙◌, List, ℕ, Result, map, ap, sym, subst}
use Rattle.std.specs.List.{list_all}
use Rattle.xan_lin.specs.declared.term.TooLarge.{TooLarge}
use Rattle.header_elaborator.specs.Code.{Fails}
use Rattle.typed_core.specs.Forms.{renamed}
use Rattle.typed_core.specs.States.{assuming}
use Rattle.std.proofs.lemmas.Result.{err_from_is_err_and}
use Rattle.xan_lin.specs.Linear.{Linear}
use Rattle.expression_elaborator.specs.Views.{state_of}
use Rattle.typed_core.specs.Joins.{stated}
use Rattle.typed_core.specs.Strays.{row_below, values_rise}
use Rattle.join_elaborator.proofs.JoinFailures.{stating_fails}
use Rattle.join_elaborator.proofs.joint.state_rows.Goals as goal

pub returns-in_err-assume_rows-clause-stated : goal.returns-in_err-assume_rows-clause-stated
returns-in_err-assume_rows-clause-stated c =
    let p = err_from_is_err_and c.from_residual-in_err-assume_rows.result c.from_residual-in_err-assume_rows.ensures.1 in
    let st = c.args.st.now in
    let clause = stated c.args.clause.now in
    let rises = renamed st.naming.items c.args.own in
    rw (p.1, p.2) (stating_fails st.naming.items c.args.own clause (state_of st) c.in_ok-rows.rows.items c.in_err-assume_rows.field-0.0
    (ap (values_rise 0) (sym c.as_slice.ensures.value) ∙ sym c.values_rise.ensures ∙ c.in_ok-hold.ensures.holds)
    (sym c.clause_rises.ensures ∙ c.in_ok-hold-2.ensures.holds)
    (c.in_ok-rows.ensures ∙ ap (λ (ns : List (ℕ × Linear)). map (renamed ns c.args.own) c.rows_of.result.now) c.as_slice-2.ensures.value ∙ ap (map rises) c.rows_of.ensures)
    (ap (λ (rs : List (Result Linear TooLarge)). list_all (row_below st.ctx.vars) rs) (sym c.as_slice-3.ensures.value)
    ∙ ap (λ (n : ℕ). list_all (row_below n) c.as_slice-3.result.now) (sym c.vars.ensures.vars) ∙ sym c.rows_below.ensures ∙ c.in_ok-hold-3.ensures.holds)
    (subst (λ (rs : List (Result Linear TooLarge)). Fails c.in_err-assume_rows.field-0.0 (assuming rs (state_of st))) c.as_slice-4.ensures.value c.in_err-assume_rows.ensures.assumed))

pub returns-clause-naming : goal.returns-clause-naming
returns-clause-naming c =
    ap (values_rise 0) c.in_ok-assume_rows.ensures.naming ∙ ap (values_rise 0) (sym c.as_slice.ensures.value) ∙ sym c.values_rise.ensures ∙ c.in_ok-hold.ensures.holds
