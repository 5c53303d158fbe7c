-- Why a text gives a program that is accepted, or an answer in its place.
use Rattle.std.specs.Prelude.{◌≡◌, ◌≢◌, ◌<◌, ◌≤◌, ◌⊎◌, ℕ, List, [], length, Option, Some, None, Err}
use Rattle.std.specs.Io.KnownBytes.{append_known}
use Rattle.xan_io.specs.declared.arg.Arg.{Arg}
use Rattle.xan_io.specs.Faults.{Rose}
use Rattle.xan_io.specs.Outcome.{Outcome, Stuck}
use Rattle.xan_io.specs.Written.{AppendsPrefix}
use Rattle.xan_read.specs.Reader.{IsLongest}
use Rattle.dtal_code.specs.declared.program.DtalProgram.{DtalProgram}
use Rattle.dtal_code.specs.declared.refusal.Where.{Where}
use Rattle.dtal_code.specs.declared.refusal.Rule.{Rule}
use Rattle.dtal_code.specs.Acceptance.{Accepted}
use Rattle.dtal_code.specs.Grammar.{InGrammar, Spells}
use Rattle.dtal_code.specs.Refusing.{verified}
use Rattle.dtal_text.specs.WholeText.{IsSpelled}
use Rattle.dtal_machine.specs.Loading.{IsRunOf}
use Rattle.dtal_machine.specs.Steps.{Loaded, IsLive, run_on}
use Rattle.dtal_driver.specs.declared.answer.Answer.{Answer}
use Rattle.dtal_driver.specs.declared.answer.Answer.TheVariants as answer
use Rattle.run_options.specs.declared.options.Limits.{Limits}
use Rattle.dtal_driver.specs.Answers.{status_of}
use Rattle.dtal_driver.specs.Report.{Report, Reports, plain, ended, ran_report, report_text}
use Rattle.dtal_driver.specs.VerifiedTexts.{text_most}
use Rattle.dtal_driver.specs.Words.{Meant, Run, text_of}

-- ---- texts

-- the bytes are not too many, and spell the program
pub record IsText (bytes : List ℕ) (program : DtalProgram) : Type 0 where
  pub short : length bytes ≤ text_most
  pub spells : Spells bytes program

-- they spell none, and so many of them begin one
pub record IsNoProgram (bytes : List ℕ) (at : ℕ) : Type 0 where
  pub short : length bytes ≤ text_most
  pub longest : IsLongest IsSpelled bytes at

-- they are the text of a program that is refused there, by that rule
pub record IsRefusedProgram (bytes : List ℕ) (at : Where) (rule : Rule) : Type 0 where
  pub program : DtalProgram
  pub text : IsText bytes program
  pub refused : verified program ≡ Err (record { at = at; rule = rule })

-- the program is accepted, and where the content is told, it is the text of the program
pub record IsVerified (content : Option (List ℕ)) (program : DtalProgram) : Type 0 where
  pub grammar : InGrammar program
  pub accepted : Accepted program
  pub told : (bytes : List ℕ) → content ≡ Some bytes → IsText bytes program

-- The answer where a name gives no accepted program: the read failed, and its count rose, or where the content is told, this is said of
-- its bytes.
abbrev pub IsDenied : Option (List ℕ) → ℕ → ℕ → Answer → Type 0
IsDenied content faults faults' answer.ReadFailed = Rose faults faults'
IsDenied content faults faults' answer.Memory = Unit {0}
IsDenied content faults faults' answer.TooLong = (bytes : List ℕ) → content ≡ Some bytes → text_most < length bytes
IsDenied content faults faults' (answer.NoProgram at) = (bytes : List ℕ) → content ≡ Some bytes → IsNoProgram bytes at
IsDenied content faults faults' (answer.Refused at rule) = (bytes : List ℕ) → content ≡ Some bytes → IsRefusedProgram bytes at rule
IsDenied content faults faults' _ = ⊥

-- the answer is one that depends on the text
abbrev pub IsOfText : Answer → Type 0
IsOfText answer.NoCommand = ⊥
IsOfText answer.ReadFailed = ⊥
IsOfText answer.Memory = ⊥
IsOfText _ = Unit {0}

-- ---- machines

-- The machine is at the start of the program's run on these arguments, which is not stuck after its steps.
pub record IsLoaded (program : DtalProgram) (limits : Limits) (args : List Arg) (machine : Loaded) : Type 0 where
  pub live : IsLive machine.now
  pub goes : (run_on machine limits.units []).how ≢ Stuck
  pub run : IsRunOf program args limits.heap limits.depth limits.units (run_on machine limits.units [])

-- this answer is reported in place of a run: the fault of the arguments, or that there is no store for them
pub record IsUnbegun (program : DtalProgram) (limits : Limits) (args : List Arg) (said : Answer) : Type 0 where
  pub of_text : IsOfText said
  pub is : ran_report program limits args ≡ Some (plain said)

-- so it is, or memory ran out
abbrev pub IsNotLoaded : DtalProgram → Limits → List Arg → Answer → Type 0
IsNotLoaded program limits args said = (said ≡ answer.Memory) ⊎ IsUnbegun program limits args said

-- the machine is at the start of a run, and where the content is told, its run is reported of the text
pub record IsLoadedFrom (text : List ℕ) (limits : Limits) (args : List Arg) (content : Option (List ℕ)) (machine : Loaded) : Type 0 where
  pub live : IsLive machine.now
  pub goes : (run_on machine limits.units []).how ≢ Stuck
  pub told : (bytes : List ℕ) → content ≡ Some bytes → (report : Report) → ended limits.units (run_on machine limits.units []) ≡ Some report
      → Reports (Run text limits args) bytes report

-- ---- whole commands

-- the count of failed reads of the command's text rose, by the counts of all names before and after
pub record TextRose (meant : Option Meant) (reads reads' : List ℕ → ℕ) : Type 0 where
  pub command : Meant
  pub is : meant ≡ Some command
  pub rose : Rose (reads (text_of command)) (reads' (text_of command))

-- the answer depends on the text, and where the content of the command's text is told, this is what is reported of it
pub record Tells (meant : Option Meant) (content : List ℕ → Option (List ℕ)) (report : Report) : Type 0 where
  pub command : Meant
  pub is : meant ≡ Some command
  pub of_text : IsOfText report.answer
  pub told : (bytes : List ℕ) → content (text_of command) ≡ Some bytes → Reports command bytes report

-- Why this comes of the words: they mean nothing, the read failed, memory ran out, or it is what is reported of the text.
pub data Cause (meant : Option Meant) (content : List ℕ → Option (List ℕ)) (reads reads' : List ℕ → ℕ) (report : Report) : Type 0 where
  NoCommand : (meant ≡ None) → (report ≡ plain answer.NoCommand) → Cause meant content reads reads' report
  ReadFailed : TextRose meant reads reads' → (report ≡ plain answer.ReadFailed) → Cause meant content reads reads' report
  Memory : (report ≡ plain answer.Memory) → Cause meant content reads reads' report
  Told : Tells meant content report → Cause meant content reads reads' report

-- ---- what is said

-- all of it was put, and the status is its own
pub record SaidAll (report : Report) (status faults faults' : ℕ) (out out' : Option (List ℕ)) : Type 0 where
  pub status_is : status ≡ status_of report.answer
  pub said : out' ≡ append_known out (report_text report)
  pub counted : faults' ≡ faults

-- a part of it was put, and the count of faults rose
pub record SaidPart (report : Report) (status faults faults' : ℕ) (out out' : Option (List ℕ)) : Type 0 where
  pub status_is : status ≡ 4
  pub part : AppendsPrefix out out' (report_text report)
  pub rose : Rose faults faults'

abbrev pub Says : Report → ℕ → ℕ → ℕ → Option (List ℕ) → Option (List ℕ) → Type 0
Says report status faults faults' out out' = SaidAll report status faults faults' out out' ⊎ SaidPart report status faults faults' out out'

-- how a command went: what came of it, why, and how much of it was said
pub record Went (meant : Option Meant) (content : List ℕ → Option (List ℕ)) (reads reads' : List ℕ → ℕ) (status faults faults' : ℕ) (out out' : Option (List ℕ))
    : Type 0 where
  pub report : Report
  pub cause : Cause meant content reads reads' report
  pub said : Says report status faults faults' out out'

-- how a run went, which came to this outcome within its steps
pub record RunSaid (steps : ℕ) (outcome : Outcome) (status faults faults' : ℕ) (out out' : Option (List ℕ)) : Type 0 where
  pub report : Report
  pub is : ended steps outcome ≡ Some report
  pub of_text : IsOfText report.answer
  pub said : Says report status faults faults' out out'
