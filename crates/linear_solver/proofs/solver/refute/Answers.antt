use Rattle.std.proofs.Common.{subst, All, List}
use Rattle.xan_lin.specs.Linear.{Linear, IsForm}
use Rattle.linear_solver.specs.Elimination.{refutation}
use Rattle.linear_solver.specs.Solving.{Answers}
use Rattle.std.specs.Prelude.{Ok}
use Rattle.linear_solver.proofs.ProvedSteps.{answers_prove}
use Rattle.linear_solver.proofs.solver.refute.Goals as goal

pub returns-in-Ok-clause-proved : goal.returns-in-Ok-clause-proved
returns-in-Ok-clause-proved c =
    let forms : All IsForm c.args.ctx.now.rows = subst (λ (rows : List Linear). All IsForm rows) c.rows.ensures.rows c.tell_forms.ensures in
    answers_prove c.args.ctx.now.rows c.args.goal.now forms c.tell_form.ensures c.in-Ok.answer c.eliminate.new.self
    (subst (λ (rows : List Linear). Answers (Ok c.in-Ok.answer) c.eliminate.new.self (refutation rows c.args.goal.now)) c.rows-2.ensures.rows c.in-Ok.ensures.answer)
