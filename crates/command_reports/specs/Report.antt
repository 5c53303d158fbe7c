-- What a command comes to, and what is reported of it: lines, and a status.
use Rattle.std.specs.Prelude.{ℕ, ℤ, List, [], ◌∷◌, ◌++◌, map}
use Rattle.xan_io.specs.Lines.{number_line}
use Rattle.typed_core.specs.declared.goal.GoalAt.{GoalAt}
use Rattle.command_reports.specs.declared.answer.Answer.{Answer}
use Rattle.command_reports.specs.declared.answer.Answer.TheVariants as answer
use Rattle.command_reports.specs.declared.run_end.RunEnd.{RunEnd}
use Rattle.command_reports.specs.Answers.{status_of, line_of}
use Rattle.command_reports.specs.Goals.{goal_lines, goals_status}
use Rattle.command_reports.specs.RunEnds.{end_status, end_line}

-- lines for the output, and the status to end with
pub record Report : Type 0 where
  pub lines : List (List ℕ)
  pub status : ℕ

-- What a command comes to, before it is said: an answer of one line, goals to be listed, or a run that printed these numbers and then ended so,
-- or for which memory ran out behind them.
pub data Found : Type 0 where
  Answered : Answer → Found
  Listed : List GoalAt → Found
  Ran : (printed : List ℤ) → RunEnd → Found
  Short : (printed : List ℤ) → Found

abbrev pub answer_report : Answer → Report
answer_report answer = record { lines = line_of answer ∷ []; status = status_of answer }

abbrev pub end_report : RunEnd → Report
end_report end = record { lines = end_line end ∷ []; status = end_status end }

-- a line for each number, and then a report
abbrev pub behind_numbers : (printed : List ℤ) → Report → Report
behind_numbers printed report = record { lines = map number_line printed ++ report.lines; status = report.status }

abbrev pub report_of : Found → Report
report_of (Answered answer) = answer_report answer
report_of (Listed goals) = record { lines = goal_lines 0 goals; status = goals_status goals }
report_of (Ran printed end) = behind_numbers printed (end_report end)
report_of (Short printed) = behind_numbers printed (answer_report answer.Memory)
