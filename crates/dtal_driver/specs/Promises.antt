-- What a status of the whole program promises: of the text, of what was said, and of the runs of its program.
use Rattle.std.specs.Prelude.{◌≡◌, ◌<◌, ◌==◌, ℕ, List, [], ◌∷◌, ◌++◌, length, Option, Some, Ok, Err, IsTrue}
use Rattle.std.specs.Io.KnownBytes.{append_known}
use Rattle.std.specs.List.{list_any}
use Rattle.xan_io.specs.declared.arg.Arg.{Arg}
use Rattle.xan_io.specs.Entry.{EntryFault}
use Rattle.xan_io.specs.Written.{AppendsPrefix}
use Rattle.dtal_code.specs.declared.program.DtalProgram.{DtalProgram}
use Rattle.dtal_code.specs.declared.refusal.Where.{Where}
use Rattle.dtal_code.specs.declared.refusal.Rule.{Rule}
use Rattle.dtal_code.specs.Acceptance.{Accepted}
use Rattle.dtal_code.specs.Machine.{State}
use Rattle.dtal_code.specs.ObjectCode.{code_of}
use Rattle.dtal_code.specs.Runs.{program_entry, outcome_from}
use Rattle.dtal_code.specs.Safety.{RunsSafely}
use Rattle.dtal_driver.specs.declared.answer.Answer.TheVariants as answer
use Rattle.run_options.specs.declared.options.Limits.{Limits}
use Rattle.dtal_driver.specs.declared.run.End.{End}
use Rattle.dtal_driver.specs.Answers.{status_of, line_of, number_lines, refused_line, accepted_line}
use Rattle.dtal_driver.specs.Causes.{Cause, IsText, IsNoProgram, IsRefusedProgram}
use Rattle.dtal_driver.specs.Report.{Report, report_text, how_of, answer_of, fault_answer}
use Rattle.dtal_driver.specs.VerifiedTexts.{text_most, instructions_of}
use Rattle.dtal_driver.specs.Words.{Meant, Run, text_of}

-- ---- statuses

abbrev pub statuses : List ℕ
statuses = 0 ∷ 2 ∷ 3 ∷ 4 ∷ 5 ∷ 6 ∷ 7 ∷ 11 ∷ 12 ∷ 13 ∷ 14 ∷ 15 ∷ []

-- one of these
abbrev pub IsStatus : ℕ → Type 0
IsStatus status = IsTrue (list_any (λ other. other == status) statuses)

-- one with which a run ends
pub data IsEndOfRun (status : ℕ) : Type 0 where
  Returned : (status ≡ 0) → IsEndOfRun status
  NoStore : (status ≡ 13) → IsEndOfRun status
  Overflow : (status ≡ 14) → IsEndOfRun status
  Spent : (status ≡ 15) → IsEndOfRun status

-- ---- of the text

-- there is a command, and where the content of its text is told, this holds of the command and those bytes
pub record OfText (meant : Option Meant) (content : List ℕ → Option (List ℕ)) (Holds : Meant → List ℕ → Type 0) : Type 0 where
  pub command : Meant
  pub is : meant ≡ Some command
  pub told : (bytes : List ℕ) → content (text_of command) ≡ Some bytes → Holds command bytes

-- the text is too long, and the line says so
pub record TooLongFor (bytes : List ℕ) (out out' : Option (List ℕ)) : Type 0 where
  pub long : text_most < length bytes
  pub said : out' ≡ append_known out (line_of answer.TooLong)

-- the text is that of no program, and the line says how many of its bytes begin one
pub record NoProgramAt (bytes : List ℕ) (out out' : Option (List ℕ)) : Type 0 where
  pub at : ℕ
  pub faulty : IsNoProgram bytes at
  pub said : out' ≡ append_known out (line_of (answer.NoProgram at))

-- the program of the text is refused, and the line names the first place and its rule
pub record RefusedAt (bytes : List ℕ) (out out' : Option (List ℕ)) : Type 0 where
  pub at : Where
  pub rule : Rule
  pub refused : IsRefusedProgram bytes at rule
  pub said : out' ≡ append_known out (refused_line at rule)

-- The program of the text is accepted, the arguments of its run have this first fault, and the line names it.
pub record FaultyAt (command : Meant) (bytes : List ℕ) (out out' : Option (List ℕ)) : Type 0 where
  pub name : List ℕ
  pub limits : Limits
  pub args : List Arg
  pub is : command ≡ Run name limits args
  pub program : DtalProgram
  pub text : IsText bytes program
  pub accepted : Accepted program
  pub fault : EntryFault
  pub found : program_entry program args limits.heap limits.depth ≡ Err fault
  pub said : out' ≡ append_known out (line_of (fault_answer fault))

-- The program of the text is accepted, and its run on the arguments, within its limits, has come out so: the lines are the numbers that it
-- printed, and then that of the end. The run is safe after every number of steps.
pub record RanTo (command : Meant) (bytes : List ℕ) (end : End) (out out' : Option (List ℕ)) : Type 0 where
  pub name : List ℕ
  pub limits : Limits
  pub args : List Arg
  pub is : command ≡ Run name limits args
  pub program : DtalProgram
  pub text : IsText bytes program
  pub accepted : Accepted program
  pub entry : Option State
  pub begins : program_entry program args limits.heap limits.depth ≡ Ok entry
  pub ends : (outcome_from (code_of program) entry limits.units).how ≡ how_of end
  pub safe : (steps : ℕ) → RunsSafely (code_of program) (program_entry program args limits.heap limits.depth) steps
  pub said : out' ≡ append_known out (number_lines (outcome_from (code_of program) entry limits.units).printed ++ line_of (answer_of limits.units end))

-- in one way or the other
pub record Ran (command : Meant) (bytes : List ℕ) (status : ℕ) (out out' : Option (List ℕ)) : Type 0 where
  pub end : End
  pub ran : RanTo command bytes end out out'
  pub status_is : status ≡ status_of (answer_of ran.limits.units end)

-- The program of the text is accepted, every run of it is safe after every number of steps, and the line counts its functions and their
-- instructions.
pub record AcceptedText (bytes : List ℕ) (out out' : Option (List ℕ)) : Type 0 where
  pub program : DtalProgram
  pub text : IsText bytes program
  pub accepted : Accepted program
  pub safe : (args : List Arg) (heap depth steps : ℕ) → RunsSafely (code_of program) (program_entry program args heap depth) steps
  pub said : out' ≡ append_known out (accepted_line (length program.funs) (instructions_of program.funs))

-- ---- of what was said

-- what came of the words for this cause was said whole, and the status is its own
pub record Said (meant : Option Meant) (content : List ℕ → Option (List ℕ)) (reads reads' : List ℕ → ℕ) (status : ℕ) (out out' : Option (List ℕ)) : Type 0 where
  pub report : Report
  pub cause : Cause meant content reads reads' report
  pub status_is : status ≡ status_of report.answer
  pub said : out' ≡ append_known out (report_text report)

-- a part of it was said
pub record SaidInPart (meant : Option Meant) (content : List ℕ → Option (List ℕ)) (reads reads' : List ℕ → ℕ) (out out' : Option (List ℕ)) : Type 0 where
  pub report : Report
  pub cause : Cause meant content reads reads' report
  pub part : AppendsPrefix out out' (report_text report)
