use Rattle.std.proofs.Common.{sym}
use Rattle.proof_lines.proofs.Opposites.{gives_opposite, refuses_opposite}
use Rattle.proof_lines.proofs.checker.fill_opposite.Goals as goal

pub returns-in-Ok : goal.returns-in-Ok
returns-in-Ok c = gives_opposite _ _ _ c.args.goal.now c.in-Ok.row (sym c.in-Ok.ensures.exact) c.fill_form.ensures

pub returns-in-Err : goal.returns-in-Err
returns-in-Err c = refuses_opposite c.args.columns.now c.args.goal.now _ c.in-Err.field-0 c.negated_row.ensures.exact c.in-Err.is (c.in-Err.ensures.large)
