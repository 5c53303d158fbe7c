-- What becomes of the bytes of a source, computed: the passes one after the other, and the first thing that stops it.
use Rattle.std.specs.Prelude.{ℕ, nat_le, List, length, Option, Some, None, Result, Ok, Err, if◌then◌else◌}
use Rattle.xan_seq.specs.Answers.{◌>>=◌}
use Rattle.xanadu_lexer.specs.Lexing.{lexed}
use Rattle.xanadu_parser.specs.Parsing.{parsed}
use Rattle.xanadu_tree.specs.Plain as plain
use Rattle.type_shapes.specs.Faults.{Fault}
use Rattle.scope_shapes.specs.Shape.{shape}
use Rattle.typed_core.specs.Goals.{Elaboration, elaborated}
use Rattle.typed_core.specs.Limits.{Stop, Past, Misfit, Stray}
use Rattle.typed_core.specs.declared.goal.GoalAt.{GoalAt}
use Rattle.goal_table.specs.Unproved.{Failure, first_unproved}
use Rattle.command_reports.specs.declared.answer.Counts.{Counts}
use Rattle.command_reports.specs.declared.refusal.Refusal.TheVariants as refusal
use Rattle.command_reports.specs.declared.refusal.SourceError.{SourceError}
use Rattle.command_reports.specs.declared.refusal.SourceError.TheVariants as error
use Rattle.command_reports.specs.Stops.{of_lexer, of_parser}
use Rattle.xanadu_driver.specs.Source.{source_most, counts_of}

-- what a pass gives, or what its error stops the source with
abbrev pub or_stop : {A E : Type 0} → (E → SourceError) → Result A E → Result A SourceError
or_stop stop (Ok value) = Ok value
or_stop stop (Err error) = Err (stop error)

-- the bytes, where there are not too many
abbrev pub short : List ℕ → Result (List ℕ) SourceError
short bytes = if nat_le (length bytes) source_most then Ok bytes else Err (error.Refused refusal.Length)

abbrev pub of_fault : Fault → SourceError
of_fault fault = error.Refused (refusal.Shape fault.kind fault.at)

-- no core that the shapes give is a misfit or a stray
abbrev pub of_walk : Stop → SourceError
of_walk (Past kind) = error.Refused (refusal.Past kind)
of_walk Misfit = error.Memory
of_walk Stray = error.Memory

abbrev pub none_fails : Option Failure → Result (Unit {0}) SourceError
none_fails None = Ok tt
none_fails (Some failure) = Err (error.Refused (refusal.Goal failure.number failure.at failure.row failure.answer))

-- ---- the passes in their order

-- the core of the source
unfoldable pub core_of : List ℕ → Result plain.Program SourceError
core_of bytes = do
  source ← short bytes
  tokens ← or_stop of_lexer (lexed source)
  tree ← or_stop of_parser (parsed tokens (length source))
  or_stop of_fault (shape tree (length source))

-- a core, and what elaboration makes of it
pub record Checked : Type 0 where
  pub core : plain.Program
  pub made : Elaboration

abbrev pub checked_with : plain.Program → Elaboration → Checked
checked_with core made = record { core = core; made = made }

unfoldable pub checked_of : List ℕ → Result Checked SourceError
checked_of bytes = do
  core ← core_of bytes
  made ← or_stop of_walk (elaborated core)
  Ok (checked_with core made)

-- the goals of the source
abbrev pub goals_of : List ℕ → Result (List GoalAt) SourceError
goals_of bytes = do
  checked ← checked_of bytes
  Ok checked.made.goals

-- the core of the source, all of whose goals are proved
unfoldable pub proved_of : List ℕ → Result plain.Program SourceError
proved_of bytes = do
  checked ← checked_of bytes
  proved ← none_fails (first_unproved checked.made.goals)
  Ok checked.core

-- how many functions, goals and instructions the source has that is built
unfoldable pub fate : List ℕ → Result Counts SourceError
fate bytes = do
  checked ← checked_of bytes
  proved ← none_fails (first_unproved checked.made.goals)
  Ok (counts_of checked.core checked.made)
