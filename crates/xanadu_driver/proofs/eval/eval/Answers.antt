use Rattle.command_reports.specs.Report.{Answered}
use Rattle.xanadu_driver.proofs.CauseLaws.{run_causes}
use Rattle.xanadu_driver.proofs.eval.eval.Goals as goal

pub returns-in-Ok-clause-went : goal.returns-in-Ok-clause-went
returns-in-Ok-clause-went g c = record {
  found = c.run_source.ensures.found;
  cause = run_causes c.args.source.now c.args.limits c.args.args.now _ _ _ c.run_source.ensures.found c.in-Ok.ensures.proved c.in-Ok.ensures.others c.run_source.ensures.finds;
  said = c.run_source.ensures.said;
}

pub returns-in-Err-clause-went : goal.returns-in-Err-clause-went
returns-in-Err-clause-went g c = record { found = Answered c.in-Err.answer; cause = c.in-Err.ensures.denied; said = c.say.ensures }
