-- Why a command comes to what it does, and what the names hold then.
use Rattle.std.specs.Prelude.{◌≡◌, ℕ, List, Option, Some, None}
use Rattle.xan_io.specs.Faults.{Rose}
use Rattle.xan_io.specs.declared.arg.Arg.{Arg}
use Rattle.run_options.specs.declared.options.Limits.{Limits}
use Rattle.typed_core.specs.declared.goal.GoalAt.{GoalAt}
use Rattle.command_reports.specs.declared.answer.Answer.{Answer}
use Rattle.command_reports.specs.declared.answer.Answer.TheVariants as answer
use Rattle.command_reports.specs.declared.answer.Counts.{Counts}
use Rattle.command_reports.specs.declared.refusal.Refusal.{Refusal}
use Rattle.xanadu_driver.specs.Correct.{Wrote, Cut}
use Rattle.command_reports.specs.Outside.{Held, Outside}
use Rattle.command_reports.specs.Report.{Found, Answered, Listed, Ran, Short, report_of}
use Rattle.command_reports.specs.Said.{Says}
use Rattle.xanadu_driver.specs.Source.{HasGoals, HasRun, IsRefused, IsEarly}
use Rattle.command_reports.specs.Words.{Meant, Build, Goals, Eval}

-- ---- names

-- the command reads this name
abbrev pub Reads : Option Meant → List ℕ → Type 0
Reads None name = ⊥
Reads (Some (Build source target)) name = name ≡ source
Reads (Some (Goals source)) name = name ≡ source
Reads (Some (Eval source limits args)) name = name ≡ source

-- the command writes this name
abbrev pub Writes : Option Meant → List ℕ → Type 0
Writes None name = ⊥
Writes (Some (Build source target)) name = name ≡ target
Writes (Some (Goals source)) name = ⊥
Writes (Some (Eval source limits args)) name = ⊥

-- no name holds anything else
abbrev pub Unchanged : Held → Held → Type 0
Unchanged before after = (name : List ℕ) → after.content name ≡ before.content name

-- ---- the cause of an answer

-- the count of failed reads of the source rose
pub record ReadFails (source : List ℕ) (before after : Held) : Type 0 where
  pub rose : Rose (before.read_faults source) (after.read_faults source)
  pub unchanged : Unchanged before after

-- where the source is told, it is refused for this
pub record Refuses (source : List ℕ) (refusal : Refusal) (before after : Held) : Type 0 where
  pub refused : (told : List ℕ) → before.content source ≡ Some told → IsRefused told refusal
  pub unchanged : Unchanged before after

-- The count of failed writes of the target rose. Where the source is told, it has a text, and the target holds what it held or a prefix
-- of that.
pub record WriteFails (source target : List ℕ) (before after : Held) : Type 0 where
  pub rose : Rose (before.write_faults target) (after.write_faults target)
  pub cut : (told : List ℕ) → before.content source ≡ Some told → Cut told (before.content target) (after.content target)

-- where the source is told, the target holds its text, of so many functions, goals and instructions
pub record Builds (source target : List ℕ) (counts : Counts) (before after : Held) : Type 0 where
  pub wrote : (told : List ℕ) → before.content source ≡ Some told → Wrote told counts (before.content target) (after.content target)

-- where the source is told, these are its goals
pub record Lists (source : List ℕ) (goals : List GoalAt) (before after : Held) : Type 0 where
  pub has : (told : List ℕ) → before.content source ≡ Some told → HasGoals told goals
  pub unchanged : Unchanged before after

-- where the source is told, this is found of its run
pub record Runs (source : List ℕ) (limits : Limits) (args : List Arg) (found : Found) (before after : Held) : Type 0 where
  pub has : (told : List ℕ) → before.content source ≡ Some told → HasRun told limits args found
  pub unchanged : Unchanged before after

-- of a command to build
abbrev pub BuildCauses : (source target : List ℕ) → Held → Held → Answer → Type 0
BuildCauses source target before after answer.NoCommand = ⊥
BuildCauses source target before after answer.ReadFailed = ReadFails source before after
BuildCauses source target before after (answer.Refused refusal) = Refuses source refusal before after
BuildCauses source target before after answer.Memory = Unchanged before after
BuildCauses source target before after answer.WriteFailed = WriteFails source target before after
BuildCauses source target before after (answer.Built counts) = Builds source target counts before after

-- of words that mean nothing; memory may have run out before that was found
abbrev pub NoCauses : Held → Held → Answer → Type 0
NoCauses before after answer.NoCommand = Unchanged before after
NoCauses before after answer.Memory = Unchanged before after
NoCauses before after _ = ⊥

-- of a command to list goals: what the source is refused for stands in front of its goals
abbrev pub GoalsCauses : (source : List ℕ) → Held → Held → Found → Type 0
GoalsCauses source before after (Answered answer.NoCommand) = ⊥
GoalsCauses source before after (Answered answer.ReadFailed) = ReadFails source before after
GoalsCauses source before after (Answered (answer.Refused refusal)) = Refuses source refusal before after × IsEarly refusal
GoalsCauses source before after (Answered answer.Memory) = Unchanged before after
GoalsCauses source before after (Answered answer.WriteFailed) = ⊥
GoalsCauses source before after (Answered (answer.Built counts)) = ⊥
GoalsCauses source before after (Listed goals) = Lists source goals before after
GoalsCauses source before after (Ran printed end) = ⊥
GoalsCauses source before after (Short printed) = ⊥

-- of an answer in front of a run: the source was not read, or is refused for this
abbrev pub SourceCauses : (source : List ℕ) → Held → Held → Answer → Type 0
SourceCauses source before after answer.ReadFailed = ReadFails source before after
SourceCauses source before after (answer.Refused refusal) = Refuses source refusal before after
SourceCauses source before after answer.Memory = Unchanged before after
SourceCauses source before after _ = ⊥

-- of a command to run a source
abbrev pub EvalCauses : (source : List ℕ) → Limits → List Arg → Held → Held → Found → Type 0
EvalCauses source limits args before after (Answered answer) = SourceCauses source before after answer
EvalCauses source limits args before after (Listed goals) = ⊥
EvalCauses source limits args before after (Ran printed end) = Runs source limits args (Ran printed end) before after
EvalCauses source limits args before after (Short printed) = Runs source limits args (Short printed) before after

-- of a command that comes to an answer alone
abbrev pub AnswerCauses : (Answer → Type 0) → Found → Type 0
AnswerCauses causes (Answered answer) = causes answer
AnswerCauses causes _ = ⊥

abbrev pub Causes : Option Meant → Held → Held → Found → Type 0
Causes None before after found = AnswerCauses (NoCauses before after) found
Causes (Some (Build source target)) before after found = AnswerCauses (BuildCauses source target before after) found
Causes (Some (Goals source)) before after found = GoalsCauses source before after found
Causes (Some (Eval source limits args)) before after found = EvalCauses source limits args before after found

-- ---- whole commands

-- how a command went: what it came to, the cause, and how much was said of it
pub record Went (meant : Option Meant) (before after : Outside) (status : ℕ) : Type 0 where
  pub found : Found
  pub cause : Causes meant before.files after.files found
  pub said : Says (report_of found) status before.faults after.faults before.written after.written

-- no count rose of the calls that the command makes
pub record NothingFailed (meant : Option Meant) (before after : Outside) : Type 0 where
  pub reads : (name : List ℕ) → Reads meant name → Rose (before.files.read_faults name) (after.files.read_faults name) → ⊥
  pub writes : (name : List ℕ) → Writes meant name → Rose (before.files.write_faults name) (after.files.write_faults name) → ⊥
  pub puts : Rose before.faults after.faults → ⊥
