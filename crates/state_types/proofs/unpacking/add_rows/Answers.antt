use Rattle.std.proofs.Common.{◌≡◌, ◌∙◌}
use Rattle.std.proofs.lemmas.Result.{err_from_is_err_and}
use Rattle.index_sorts.specs.declared.error.ContextError.TheVariants.{Variables}
use Rattle.state_types.specs.Unpacking.{shifted}
use Rattle.state_types.proofs.ShiftFacts.{rows-none, named_again, row_named, rows_more, refused_rows, never_variables}
use Rattle.state_types.proofs.unpacking.add_rows.Goals as goal

pub loop-row-init : goal.loop-row-init
loop-row-init c = (rows-none c.args.ctx.now, c.requires.fresh)

pub add-requires : goal.add-requires
add-requires c =
    named_again c.args.first c.args.vars c.loop-row.ctx.vars c.row-item.result c.shifted.result c.shifted.ensures
    (row_named c.args.vars c.args.rows.now c.loop-row.row-index c.row-item.result c.requires.named c.loop-row-test.true c.row-item.is) c.loop-row.invariant.1

pub returns-in_err-add-clause-refused : goal.returns-in_err-add-clause-refused
returns-in_err-add-clause-refused c =
    let p = err_from_is_err_and c.from_residual.result c.from_residual.ensures.1 in
    let h = c.in_err-add.ensures {u = tt} in
    rw (p.1, p.2)
    (refused_rows (shifted c.args.first) c.args.ctx.now c.loop-row.ctx c.args.rows.now c.loop-row.row-index c.row-item.result c.shifted.result c.in_err-add.field-0.0 c.loop-row-test.true
    c.row-item.is c.shifted.ensures c.loop-row.invariant.0 h.refused)

pub returns-in_err-add-clause-never : goal.returns-in_err-add-clause-never
returns-in_err-add-clause-never c =
    let p = err_from_is_err_and c.from_residual.result c.from_residual.ensures.1 in
    let h = c.in_err-add.ensures {u = tt} in
    λ e. never_variables c.loop-row.ctx c.shifted.result c.in_err-add.field-0.0 h.refused (let v : c.in_err-add.field-0.0 ≡ Variables = cc in v)

pub loop-row-preserved : goal.loop-row-preserved
loop-row-preserved c =
    let h = c.in_ok-add.ensures {u = tt} in (
      rows_more (shifted c.args.first) c.args.ctx.now c.loop-row.ctx c.add.new.self c.args.rows.now c.loop-row.row-index c.row-item.result c.shifted.result c.loop-row-test.true c.row-item.is
          c.shifted.ensures c.loop-row.invariant.0 h.added,
      c.add.ensures.variables ∙ c.loop-row.invariant.1,
    )
