-- What a command says of a run of a source: what it printed, and its end.
use Rattle.std.specs.Prelude.{◌≡◌, ℕ, ℤ, List, [], take, Option, Result, Ok, Err}
use Rattle.xan_io.specs.Entry as fault
use Rattle.xan_io.specs.Entry.{EntryFault}
use Rattle.xan_io.specs.Outcome as how
use Rattle.xan_io.specs.Outcome.{How, Outcome}
use Rattle.xan_io.specs.declared.arg.Arg.{Arg}
use Rattle.run_options.specs.declared.options.Limits.{Limits}
use Rattle.xanadu_tree.specs.Plain as core
use Rattle.typed_core.specs.Meaning.{source_entry, source_fault, source_outcome}
use Rattle.source_evaluator.specs.Evaluating.{printed_by}
use Rattle.source_evaluator.specs.declared.end.SourceEnd.{SourceEnd}
use Rattle.source_evaluator.specs.declared.end.SourceEnd.TheVariants as source_end
use Rattle.command_reports.specs.Report.{Found, Answered, Listed, Ran, Short, report_of}
use Rattle.command_reports.specs.Said.{Says}
use Rattle.command_reports.specs.declared.run_end.RunEnd.{RunEnd}
use Rattle.command_reports.specs.declared.run_end.RunEnd.TheVariants as end

-- what is said of the end of a run that may take so many units
abbrev pub said_end : (units : ℕ) → SourceEnd → RunEnd
said_end units (source_end.Returned word) = end.Returned word
said_end units source_end.NoStore = end.NoStore
said_end units source_end.Overflow = end.Overflow
said_end units source_end.FuelEnded = end.FuelEnded units

-- what is said of a fault of the arguments
abbrev pub fault_end : EntryFault → RunEnd
fault_end fault.ArgCount = end.ArgCount
fault_end (fault.ArgKind argument) = end.ArgKind argument
fault_end (fault.ArgIndex argument) = end.ArgIndex argument
fault_end (fault.EntryRow row) = end.EntryRow row

-- what is found of a run that has printed this and stands so with its units; no run of a proved source is stuck
abbrev pub end_found : (units : ℕ) → (printed : List ℤ) → How → Found
end_found units printed (how.Returned word) = Ran printed (end.Returned word)
end_found units printed how.NoStore = Ran printed end.NoStore
end_found units printed how.Overflow = Ran printed end.Overflow
end_found units printed how.Running = Ran printed (end.FuelEnded units)
end_found units printed how.Stuck = Short printed

abbrev pub outcome_found : (units : ℕ) → Outcome → Found
outcome_found units outcome = end_found units outcome.printed outcome.how

-- and of one that may begin: the fault of its arguments, or what it has printed and its end
abbrev pub entry_found : (units : ℕ) → Result (ℕ → Outcome) EntryFault → Found
entry_found units (Err fault) = Ran [] (fault_end fault)
entry_found units (Ok run) = outcome_found units (run units)

-- what is found of the run of a core within limits on arguments
abbrev pub run_found : core.Program → Limits → List Arg → Found
run_found program limits args = entry_found limits.units (source_entry program args limits.heap limits.depth)

-- ---- what is found where memory may run out

-- memory ran out behind these numbers, which are those that the run prints first; faulty arguments have none
pub record IsShort (program : core.Program) (limits : Limits) (args : List Arg) (printed : List ℤ) : Type 0 where
  pub count : ℕ
  pub is : printed ≡ take count (printed_by (source_fault program args) (source_outcome program args limits.heap limits.depth limits.units))

abbrev pub FindsRun : core.Program → Limits → List Arg → Found → Type 0
FindsRun program limits args (Answered answer) = ⊥
FindsRun program limits args (Listed goals) = ⊥
FindsRun program limits args (Ran printed end) = run_found program limits args ≡ Ran printed end
FindsRun program limits args (Short printed) = IsShort program limits args printed

-- how a run went: what was found of it, and how much of that was said
pub record RunSaid (program : core.Program) (limits : Limits) (args : List Arg) (status faults faults' : ℕ) (out out' : Option (List ℕ)) : Type 0 where
  pub found : Found
  pub finds : FindsRun program limits args found
  pub said : Says (report_of found) status faults faults' out out'
