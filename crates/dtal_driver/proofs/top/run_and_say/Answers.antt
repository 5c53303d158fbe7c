use Rattle.std.proofs.Common.{refl, subst}
use Rattle.dtal_driver.specs.declared.answer.Answer.{Answer}
use Rattle.dtal_driver.specs.Causes.{Says}
use Rattle.dtal_driver.specs.Report.{plain}
use Rattle.dtal_driver.proofs.Commands.{run-said, run-cut}
use Rattle.dtal_driver.proofs.top.run_and_say.Goals as goal

pub returns-in-Ok : goal.returns-in-Ok
returns-in-Ok g c = record {
  said = run-said c.args.steps _ _ (g.O.Sink.written c.run.new.out) _ _ _ _ c.in-Ok.end (g.O.Sink.faults c.run.new.out) c.in-Ok.ensures.ended c.in-Ok.ensures.appended
      c.in-Ok.ensures.counted
      (subst
      (λ (a : Answer). Says (plain a) c.say.result (g.O.Sink.faults c.run.new.out) (g.O.Sink.faults c.say.new.out) (g.O.Sink.written c.run.new.out)
      (g.O.Sink.written c.say.new.out)) c.answer.ensures c.say.ensures.said);
}

pub returns-in-Err : goal.returns-in-Err
returns-in-Err g c = record { said = run-cut c.args.steps _ _ (g.O.Sink.written c.args.out.now) _ _ _ _ c.requires.goes refl c.in-Err.ensures.prefix c.in-Err.ensures.failed }
