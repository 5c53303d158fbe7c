use Rattle.command_reports.specs.Report.{Answered, Listed}
use Rattle.xanadu_driver.proofs.top.list_goals.Goals as goal

pub returns-in-Ok-clause-went : goal.returns-in-Ok-clause-went
returns-in-Ok-clause-went g c = record { found = Listed c.in-Ok.listing.base.made.goals; cause = c.in-Ok.ensures.caused; said = c.list.ensures }

pub returns-in-Err-clause-went : goal.returns-in-Err-clause-went
returns-in-Err-clause-went g c = record { found = Answered c.in-Err.answer; cause = c.in-Err.ensures.caused; said = c.say.ensures }
