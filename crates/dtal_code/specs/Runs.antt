-- Where a run of a program begins, and the outcome of a whole run.
use Rattle.std.specs.Prelude.{ℕ, zero, suc, ℤ, List, [], ◌∷◌, Option, Some, None, Result, Ok, Err}
use Rattle.xan_io.specs.declared.arg.Arg.{Arg}
use Rattle.xan_io.specs.Entry.{EntryFault, unless_faulty}
use Rattle.xan_io.specs.Outcome.{NoStore, Outcome}
use Rattle.operation_rules.specs.Entry.{entry_fault, placed}
use Rattle.operation_rules.specs.FlatWords.{Flat, flat_words}
use Rattle.state_types.specs.declared.closed.Signature.{Signature}
use Rattle.dtal_code.specs.declared.program.Function.{Function}
use Rattle.dtal_code.specs.declared.program.DtalProgram.{DtalProgram}
use Rattle.dtal_code.specs.Declarations.{main_of}
use Rattle.dtal_code.specs.Machine.{State}
use Rattle.dtal_code.specs.ObjectCode.{Code, code_of, main_start}
use Rattle.dtal_code.specs.Running.{first_activation, run, comes_to}

-- ---- the first state

-- one activation stands at an instruction, with the words of the arguments in its first places
abbrev pub first_state : (start depth : ℕ) → List ℤ × Flat → State
first_state start depth begun = record {
  words = begun.1.words;
  heap = begun.1.heap;
  depth = depth;
  activations = first_activation start begun.0 None ∷ [];
}

-- that state, where there may be an activation and the arguments have room
abbrev pub entry_state : (start depth : ℕ) → Option (List ℤ × Flat) → Option State
entry_state start zero begun = None
entry_state start (suc depth) None = None
entry_state start (suc depth) (Some begun) = Some (first_state start (suc depth) begun)

abbrev pub empty_store : (heap : ℕ) → Flat
empty_store heap = record { words = []; heap = heap }

-- How a run begins at an instruction: the first fault of the arguments, and then there is no run; or that state, where there is one.
abbrev pub entry_at : Signature → (start : ℕ) → List Arg → (heap depth : ℕ) → Result (Option State) EntryFault
entry_at sig start args heap depth =
    unless_faulty (entry_fault sig.vars sig.rows sig.params args) (entry_state start depth (placed flat_words args (empty_store heap)))

abbrev pub entry_of : Option (ℕ × Function) → (start : ℕ) → List Arg → (heap depth : ℕ) → Result (Option State) EntryFault
entry_of None start args heap depth = Ok (entry_state start depth (placed flat_words args (empty_store heap)))
entry_of (Some main) start args heap depth = entry_at main.1.sig start args heap depth

-- the same at the first instruction of `main`; where there is no such function there is no fault, and the run is stuck
unfoldable pub program_entry : DtalProgram → List Arg → (heap depth : ℕ) → Result (Option State) EntryFault
program_entry program args heap depth = entry_of (main_of program.funs) (main_start program) args heap depth

-- ---- the whole run

-- the outcome, after so many steps, of a run that has begun; where there is no first state, it ends at once
unfoldable pub outcome_from : Code → Option State → (steps : ℕ) → Outcome
outcome_from code None steps = record { printed = []; how = NoStore }
outcome_from code (Some state) steps = run code steps [] state

abbrev pub outcomes : Code → Result (Option State) EntryFault → Result (ℕ → Outcome) EntryFault
outcomes code (Ok entry) = Ok (outcome_from code entry)
outcomes code (Err fault) = Err fault

-- the program's run on these arguments, with so large a store and so many activations: its outcome after each number of steps
unfoldable pub program_run : DtalProgram → List Arg → (heap depth : ℕ) → Result (ℕ → Outcome) EntryFault
program_run program args heap depth = outcomes (code_of program) (program_entry program args heap depth)

-- the state that a run has come to after so many steps, where it goes on
unfoldable pub state_from : Code → Option State → (steps : ℕ) → Option State
state_from code None steps = None
state_from code (Some state) steps = comes_to code steps state
