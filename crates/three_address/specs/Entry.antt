-- Where a run of the code over places begins, and the outcome of a whole run.
use Rattle.std.specs.Prelude.{ℕ, zero, suc, ℤ, List, [], ◌∷◌, Option, Some, None, Result, slice_get}
use Rattle.xan_io.specs.Entry.{EntryFault, unless_faulty}
use Rattle.xan_io.specs.Outcome.{NoStore, Outcome}
use Rattle.xan_io.specs.declared.arg.Arg.{Arg}
use Rattle.operation_rules.specs.Entry.{entry_fault, placed}
use Rattle.operation_rules.specs.FlatWords.{Flat, flat_words}
use Rattle.three_address.specs.Machine.{State, places_of, run}
use Rattle.three_address.specs.declared.function.LowFun.{LowFun}
use Rattle.three_address.specs.declared.function.Lowered.{Lowered}

-- the state in which a function stands at its first instruction, with the words of the arguments in its first places
abbrev pub first_state : (main depth : ℕ) → List ℤ × Flat → State
first_state main depth begun = record {
  store = begun.1;
  depth = depth;
  activations = record { fun = main; at = 0; places = places_of begun.0; result_to = None } ∷ [];
}

-- that state, where there may be an activation and the arguments have room
abbrev pub entry_state : (main depth : ℕ) → Option (List ℤ × Flat) → Option State
entry_state main zero begun = None
entry_state main (suc depth) None = None
entry_state main (suc depth) (Some begun) = Some (first_state main (suc depth) begun)

-- where there is no such state, the run ends at once
unfoldable pub outcome_from : List LowFun → Option State → ℕ → Outcome
outcome_from funs None steps = record { printed = []; how = NoStore }
outcome_from funs (Some state) steps = run funs steps [] state

-- the outcome after so many steps, for arguments without a fault
abbrev pub low_outcome : Lowered → List Arg → (heap depth : ℕ) → ℕ → Outcome
low_outcome program args heap depth =
    outcome_from program.funs (entry_state program.main depth (placed flat_words args (record { words = []; heap = heap })))

-- ---- with the faults of arguments

-- the first fault of the arguments of a function; one that does not exist has none, and its run is stuck
abbrev pub fault_of : Option LowFun → List Arg → Option EntryFault
fault_of None args = None
fault_of (Some fun) args = entry_fault fun.sig.vars fun.sig.rows fun.sig.params args

abbrev pub low_entry : Lowered → List Arg → (heap depth : ℕ) → Result (ℕ → Outcome) EntryFault
low_entry program args heap depth = unless_faulty (fault_of (slice_get program.funs program.main) args) (low_outcome program args heap depth)
