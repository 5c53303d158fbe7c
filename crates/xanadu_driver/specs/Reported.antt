-- What the program reports of a command.
use Rattle.std.specs.Prelude.{ℕ, List, Option, Some, None, option_map, Result, Ok, Err}
use Rattle.command_reports.specs.declared.answer.Counts.{Counts}
use Rattle.typed_core.specs.declared.goal.GoalAt.{GoalAt}
use Rattle.command_reports.specs.declared.answer.Answer.{Answer}
use Rattle.command_reports.specs.declared.answer.Answer.TheVariants as answer
use Rattle.command_reports.specs.declared.refusal.SourceError.{SourceError}
use Rattle.command_reports.specs.declared.refusal.SourceError.TheVariants as error
use Rattle.command_reports.specs.Report.{Report, Found, Answered, Listed, report_of}
use Rattle.command_reports.specs.Words.{Meant, Build, Goals, Eval}
use Rattle.run_options.specs.declared.options.Limits.{Limits}
use Rattle.source_runs.specs.Runs.{run_found}
use Rattle.xan_io.specs.declared.arg.Arg.{Arg}
use Rattle.xanadu_tree.specs.Plain as plain
use Rattle.xanadu_driver.specs.Fate.{fate, goals_of, proved_of}

abbrev pub stopped : SourceError → Answer
stopped (error.Refused refusal) = answer.Refused refusal
stopped error.Memory = answer.Memory

-- the answer to a source of this fate
abbrev pub built : Result Counts SourceError → Found
built (Ok counts) = Answered (answer.Built counts)
built (Err stop) = Answered (stopped stop)

-- what is listed of a source with these goals
abbrev pub listed : Result (List GoalAt) SourceError → Found
listed (Ok goals) = Listed goals
listed (Err stop) = Answered (stopped stop)

-- what is found of the run of a source with this core
abbrev pub ran : Limits → List Arg → Result plain.Program SourceError → Found
ran limits args (Ok core) = run_found core limits args
ran limits args (Err stop) = Answered (stopped stop)

-- What is reported of the command that was meant, over these contents, where no call of the outside fails and memory suffices. There is no
-- report where the content of the source is not told.
abbrev pub report : Option Meant → (List ℕ → Option (List ℕ)) → Option Report
report None content = Some (report_of (Answered answer.NoCommand))
report (Some (Build source target)) content = option_map (λ bytes. report_of (built (fate bytes))) (content source)
report (Some (Goals source)) content = option_map (λ bytes. report_of (listed (goals_of bytes))) (content source)
report (Some (Eval source limits args)) content = option_map (λ bytes. report_of (ran limits args (proved_of bytes))) (content source)
