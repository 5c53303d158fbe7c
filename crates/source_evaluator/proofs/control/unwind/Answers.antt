use Rattle.std.proofs.Common.{◌∙◌, sym, refl}
use Rattle.source_evaluator.specs.Views.{works}
use Rattle.source_evaluator.proofs.Unwinding.{back_found, goes_on, none_found}
use Rattle.source_evaluator.proofs.control.unwind.Goals as goal

pub returns-then-is_back-clause-back : goal.returns-then-is_back-clause-back
returns-then-is_back-clause-back c =
    λ _. back_found c.loop-task.work c.pop.new.self c.in-Some.task (works c.args.work.now) c.in-Some.ensures.first c.loop-task.invariant
    (sym c.is_back.ensures ∙ c.if-is_back.true)

pub loop-task-preserved : goal.loop-task-preserved
loop-task-preserved c =
    goes_on c.loop-task.work c.pop.new.self c.in-Some.task (works c.args.work.now) c.in-Some.ensures.first c.loop-task.invariant
    (sym c.is_back.ensures ∙ c.if-is_back.false)

pub returns-clause-main : goal.returns-clause-main
returns-clause-main c = λ _. none_found c.loop-task.work (works c.args.work.now) (c.in_default.ensures.empty refl) c.loop-task.invariant
