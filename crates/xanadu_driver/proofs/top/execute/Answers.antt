use Rattle.std.proofs.Common.{List, Some, Err, ap, sym, ◌∙◌}
use Rattle.xan_io.specs.declared.arg.Arg.{Arg}
use Rattle.command_reports.specs.Report.{Answered}
use Rattle.command_reports.specs.Words.{Goals, Eval, view}
use Rattle.command_reports.specs.declared.answer.Answer.TheVariants.{NoCommand, Memory}
use Rattle.command_reports.specs.declared.words.Command.{Command}
use Rattle.xanadu_driver.proofs.CauseLaws.{caused_build, caused_memory, caused_none, build_causes, went_as}
use Rattle.xanadu_driver.proofs.top.execute.Goals as goal

pub returns-in-Ok-Build-clause-went : goal.returns-in-Ok-Build-clause-went
returns-in-Ok-Build-clause-went g c = record {
  found = Answered c.build.result;
  cause =
      caused_build _ c.in-Ok-Build.source.now c.in-Ok-Build.target.now
      (c.in-Ok-Build.ensures.read ∙ ap (λ (command : Command). Some (view command)) c.in-Ok-Build.field-0-is) _ _ c.build.result
      (build_causes _ _ _ _ c.build.result c.build.ensures.command c.build.ensures.others c.build.ensures.read c.build.ensures.write
      c.build.ensures.refused c.build.ensures.kept c.build.ensures.cut c.build.ensures.built);
  said = c.say.ensures;
}

pub returns-in-Ok-Goals-clause-went : goal.returns-in-Ok-Goals-clause-went
returns-in-Ok-Goals-clause-went g c =
    went_as _ (Goals c.in-Ok-Goals.source.now) (c.in-Ok-Goals.ensures.read ∙ ap (λ (command : Command). Some (view command)) c.in-Ok-Goals.field-0-is) _ _ _
    c.list_goals.ensures.went

pub returns-in-Ok-Eval-clause-went : goal.returns-in-Ok-Eval-clause-went
returns-in-Ok-Eval-clause-went g c =
    went_as _ _
    (c.in-Ok-Eval.ensures.read ∙ ap (λ (command : Command). Some (view command)) c.in-Ok-Eval.field-0-is
    ∙ ap (λ (args : List Arg). Some (Eval c.in-Ok-Eval.request.name.now c.in-Ok-Eval.request.limits args)) (sym c.as_slice.ensures.value)) _ _ _
    c.eval.ensures.went

pub returns-in-Err-NoCommand-clause-went : goal.returns-in-Err-NoCommand-clause-went
returns-in-Err-NoCommand-clause-went g c = record {
  found = Answered NoCommand;
  cause = caused_none _ (c.in-Err-NoCommand.ensures.none (ap Err c.in-Err-NoCommand.field-0-is)) _;
  said = c.say-in-Err-NoCommand.ensures;
}

pub returns-in-Err-Memory-clause-went : goal.returns-in-Err-Memory-clause-went
returns-in-Err-Memory-clause-went g c = record { found = Answered Memory; cause = caused_memory _ _; said = c.say-in-Err-Memory.ensures }
