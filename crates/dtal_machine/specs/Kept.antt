-- What every machine keeps, and how its run stands.
use Rattle.std.specs.Prelude.{◌≡◌, ℕ, List, Option, None, Some}
use Rattle.dtal_code.specs.declared.program.DtalProgram.{DtalProgram}
use Rattle.dtal_code.specs.Acceptance.{Accepted}
use Rattle.dtal_code.specs.Machine.{State}
use Rattle.dtal_code.specs.ObjectCode.{code_of}
use Rattle.dtal_code.specs.ObjectWords.{object_words}
use Rattle.dtal_safety.specs.Fitting.{StateFits}
use Rattle.dtal_machine.specs.declared.event.End.{End}
use Rattle.dtal_machine.specs.declared.run.Run.{Run}
use Rattle.dtal_machine.specs.Acting.{end_how}
use Rattle.dtal_machine.specs.Stacks.{HasShape, state_of}
use Rattle.dtal_machine.specs.Steps.{Now, Live, Over}

-- how the run stands, by its end where it has one
abbrev pub stands_at : Option End → State → Now
stands_at None state = Live state
stands_at (Some end) state = Over (end_how end)

-- Some accepted program has these words and first instructions, and the state fits it.
pub record IsRunning (words starts : List ℕ) (run : Run) : Type 0 where
  pub program : DtalProgram
  pub accepted : Accepted program
  pub words_are : words ≡ object_words (code_of program).ops
  pub starts_are : starts ≡ (code_of program).starts
  pub fits : StateFits program accepted.states (state_of run)
  pub shape : HasShape run

-- Of a run that has ended nothing is asked.
abbrev pub IsKept : Option End → (words starts : List ℕ) → Run → Type 0
IsKept None words starts run = IsRunning words starts run
IsKept (Some end) words starts run = Unit {0}
