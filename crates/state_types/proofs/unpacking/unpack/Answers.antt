use Rattle.std.proofs.Common.{◌≡◌, ◌∙◌, sym, ap, map, Err, Result}
use Rattle.std.proofs.lemmas.Result.{err_from_is_err_and}
use Rattle.index_sorts.specs.declared.error.ContextError.{ContextError}
use Rattle.index_sorts.specs.declared.error.ContextError.TheVariants.{Variables}
use Rattle.state_types.specs.Tables.{closed_at}
use Rattle.state_types.specs.Unpacking.{shifted, with_rows}
use Rattle.state_types.proofs.ShiftFacts.{IsLeft-all, OnErr-any}
use Rattle.state_types.proofs.unpacking.unpack.Goals as goal

pub returns-in_err-add_rows-clause-variables : goal.returns-in_err-add_rows-clause-variables
returns-in_err-add_rows-clause-variables c =
    let p = err_from_is_err_and c.from_residual-in_err-add_rows.result c.from_residual-in_err-add_rows.ensures.1 in
    let h = c.in_err-add_rows.ensures {u = tt} in
    λ e. (let v : c.in_err-add_rows.field-0.0 ≡ Variables = cc in
    absurd (h.never (ap (λ x. let r : Result (Unit {0}) ContextError = Err x in r) v)))

pub returns-clause-left : goal.returns-clause-left
returns-clause-left c =
    let h = c.in_ok-first.ensures {u = tt} in
    let k = c.in_ok-add_rows.ensures {u = tt} in
    OnErr-any c.shifted_parts.result
    (IsLeft-all c.args.ctx.now c.fresh.new.self c.add_rows.new.ctx (closed_at c.args.table.now c.args.id) c.at-packed.result.now c.in_ok-first.first c.at-packed.ensures.found (sym h.first) h.more
    (ap (λ rs. with_rows c.fresh.new.self (map (shifted c.in_ok-first.first) rs)) (sym c.as_slice.ensures) ∙ k.added))
