-- What a command reports of the text that its name holds: the numbers that it prints, and then its answer.
use Rattle.std.specs.Prelude.{◌≡◌, ◌<◌, ◌≤◌, ℕ, ℤ, List, [], ◌++◌, length, Option, Some, None, Result, Ok, Err, option_map}
use Rattle.xan_io.specs.declared.arg.Arg.{Arg}
use Rattle.xan_io.specs.Entry as fault
use Rattle.xan_io.specs.Outcome as how
use Rattle.xan_read.specs.Reader.{IsLongest}
use Rattle.state_types.specs.declared.state.StateType.{StateType}
use Rattle.dtal_code.specs.declared.program.DtalProgram.{DtalProgram}
use Rattle.dtal_code.specs.declared.refusal.Refusal.{Refusal}
use Rattle.dtal_code.specs.Grammar.{Spells}
use Rattle.dtal_code.specs.Machine.{State}
use Rattle.dtal_code.specs.ObjectCode.{Code, code_of}
use Rattle.dtal_code.specs.Refusing.{verified}
use Rattle.dtal_code.specs.Runs.{program_entry, outcome_from}
use Rattle.dtal_text.specs.WholeText.{IsSpelled}
use Rattle.dtal_driver.specs.declared.answer.Answer.{Answer}
use Rattle.dtal_driver.specs.declared.answer.Answer.TheVariants as answer
use Rattle.run_options.specs.declared.options.Limits.{Limits}
use Rattle.dtal_driver.specs.declared.run.End.{End}
use Rattle.dtal_driver.specs.declared.run.End.TheVariants as ends
use Rattle.dtal_driver.specs.Answers.{line_of, number_lines}
use Rattle.dtal_driver.specs.VerifiedTexts.{text_most, accepted_answer}
use Rattle.dtal_driver.specs.Words.{Meant, Verify, Run}

pub record Report : Type 0 where
  pub printed : List ℤ
  pub answer : Answer

-- nothing is printed before the answer
abbrev pub plain : Answer → Report
plain answer = record { printed = []; answer = answer }

-- a line for each number, and then the line of the answer
abbrev pub report_text : Report → List ℕ
report_text report = number_lines report.printed ++ line_of report.answer

-- ---- runs

-- how a run has come out within its steps; no run of an accepted program is stuck
abbrev pub end_of : how.How → Option End
end_of (how.Returned word) = Some (ends.Returned word)
end_of how.NoStore = Some ends.NoStore
end_of how.Overflow = Some ends.Overflow
end_of how.Running = Some ends.Spent
end_of how.Stuck = None

abbrev pub how_of : End → how.How
how_of (ends.Returned word) = how.Returned word
how_of ends.NoStore = how.NoStore
how_of ends.Overflow = how.Overflow
how_of ends.Spent = how.Running

abbrev pub answer_of : (steps : ℕ) → End → Answer
answer_of steps (ends.Returned word) = answer.Returned word
answer_of steps ends.NoStore = answer.NoStore
answer_of steps ends.Overflow = answer.Overflow
answer_of steps ends.Spent = answer.StepsEnded steps

-- what a run that has come so far within its steps reports
abbrev pub ended : (steps : ℕ) → how.Outcome → Option Report
ended steps outcome = option_map (λ end. record { printed = outcome.printed; answer = answer_of steps end }) (end_of outcome.how)

-- what is said of a fault of the arguments
abbrev pub fault_answer : fault.EntryFault → Answer
fault_answer fault.ArgCount = answer.ArgCount
fault_answer (fault.ArgKind argument) = answer.ArgKind argument
fault_answer (fault.ArgIndex argument) = answer.ArgIndex argument
fault_answer (fault.EntryRow row) = answer.EntryRow row

-- what is reported of a run that may begin: the fault of the arguments, or what its outcome gives
abbrev pub run_report : Code → (steps : ℕ) → Result (Option State) fault.EntryFault → Option Report
run_report code steps (Err fault) = Some (plain (fault_answer fault))
run_report code steps (Ok entry) = ended steps (outcome_from code entry steps)

-- what is reported of an accepted program that is run within limits on arguments
abbrev pub ran_report : DtalProgram → Limits → List Arg → Option Report
ran_report program limits args = run_report (code_of program) limits.units (program_entry program args limits.heap limits.depth)

-- ---- texts

-- what a command reports of an accepted program
abbrev pub accepted_report : Meant → DtalProgram → Option Report
accepted_report (Verify text) program = Some (plain (accepted_answer program))
accepted_report (Run text limits args) program = ran_report program limits args

-- and of any program, of which the walk over its places gives this
abbrev pub program_report : Meant → DtalProgram → Result (List (List StateType)) Refusal → Option Report
program_report command program (Ok states) = accepted_report command program
program_report command program (Err refusal) = Some (plain (answer.Refused refusal.at refusal.rule))

-- This is what the command reports where its name holds these bytes: they are too many, or they spell no program and so many of them begin
-- one, or they spell one.
pub data Reports (command : Meant) (bytes : List ℕ) (report : Report) : Type 0 where
  TooLong : (text_most < length bytes) → (report ≡ plain answer.TooLong) → Reports command bytes report
  NoProgram : (length bytes ≤ text_most) → (at : ℕ) → IsLongest IsSpelled bytes at → (report ≡ plain (answer.NoProgram at)) → Reports command bytes report
  OfProgram : (length bytes ≤ text_most) → (program : DtalProgram) → Spells bytes program → (program_report command program (verified program) ≡ Some report)
      → Reports command bytes report
