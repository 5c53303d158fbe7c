use Rattle.xan_lin.proofs.EqualForms.{answer_decides}
use Rattle.xan_lin.proofs.form.Form.is_same.Goals as goal

pub returns-clause-equal : goal.returns-clause-equal
returns-clause-equal c = answer_decides _ _ _ c.are_same.ensures
