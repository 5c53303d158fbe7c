-- Which addresses of the store a step touches, and which runs of a program's code are safe.
use Rattle.std.specs.Prelude.{◌≡◌, ◌≢◌, ℕ, zero, suc, ◌+◌, ℤ, pos, ◌+ℤ◌, List, [], ◌∷◌, length, Option, Some, None, Result, Ok, Err, slice_get, nat_le, if◌then◌else◌}
use Rattle.std.specs.List.{All}
use Rattle.xan_io.specs.Entry.{EntryFault}
use Rattle.xan_io.specs.Outcome.{Stuck}
use Rattle.operation_rules.specs.declared.operation.Operation.{Operation}
use Rattle.operation_rules.specs.declared.operation.Operation.TheVariants.{Length, Load, Store, New, Tuple, Untuple}
use Rattle.dtal_code.specs.declared.object.RunOp.{RunOp}
use Rattle.dtal_code.specs.Instructions.{instruction_of}
use Rattle.dtal_code.specs.Machine.{Activation, State, Off}
use Rattle.dtal_code.specs.ObjectCode.{Code}
use Rattle.dtal_code.specs.Running.{words_in, step}
use Rattle.dtal_code.specs.Runs.{outcome_from, state_from}
use Rattle.dtal_code.specs.Allocated.{IsAllocated, words_after}

-- ---- touched addresses

-- so many addresses from one on
unfoldable pub addresses_from : ℤ → (count : ℕ) → List ℤ
addresses_from address zero = []
addresses_from address (suc count) = address ∷ addresses_from (address +ℤ pos 1) count

-- those of a new block of so many words, where there is room for it
abbrev pub added : State → (count : ℕ) → List ℤ
added state count = if nat_le (length state.words + count) state.heap then addresses_from (pos (length state.words)) count else []

-- The addresses that an operation reads or writes by plain arithmetic, without a test of an index, by the words that it reads.
abbrev pub touches : Operation → State → List ℤ → List ℤ
touches Length state (a ∷ []) = (a +ℤ pos 1) ∷ []
touches Load state (a ∷ i ∷ []) = ((a +ℤ pos 2) +ℤ i) ∷ []
touches Store state (a ∷ i ∷ v ∷ []) = ((a +ℤ pos 2) +ℤ i) ∷ []
touches (Untuple number count) state (a ∷ []) = addresses_from (a +ℤ pos 2) count
touches (New cells) state (pos n ∷ v ∷ []) = added state (n + 2)
touches (Tuple number) state words = added state (length words + 2)
touches _ state words = []

abbrev pub touched_with : Operation → State → Option (List ℤ) → List ℤ
touched_with operation state None = []
touched_with operation state (Some words) = touches operation state words

abbrev pub touched_at : Option RunOp → State → Activation → List ℤ
touched_at None state top = []
touched_at (Some op) state top = let i = instruction_of op in touched_with i.operation state (words_in top.places i.reads)

abbrev pub touched_by : Code → State → List Activation → List ℤ
touched_by code state [] = []
touched_by code state (top ∷ callers) = touched_at (slice_get code.ops top.at) state top

-- those of the next instruction of a state
unfoldable pub touched : Code → State → List ℤ
touched code state = touched_by code state state.activations

-- ---- safety

-- A state in which a run goes on: it stands at an instruction that exists, its step is not stuck, and each address that this touches is
-- allocated after it.
pub record IsSafe (code : Code) (state : State) : Type 0 where
  pub top : Activation
  pub callers : List Activation
  pub uppermost : state.activations ≡ top ∷ callers
  pub op : RunOp
  pub exists : slice_get code.ops top.at ≡ Some op
  pub goes : step code state ≢ Off Stuck
  pub allocated : All (IsAllocated (words_after state (step code state))) (touched code state)

-- A run that has begun so is not stuck after so many steps, and the state that it has come to, if it goes on, is safe.
pub record IsSafeRun (code : Code) (entry : Option State) (steps : ℕ) : Type 0 where
  pub not_stuck : (outcome_from code entry steps).how ≢ Stuck
  pub safe : (state : State) → state_from code entry steps ≡ Some state → IsSafe code state

-- The same of a run that may begin: arguments with a fault have none.
abbrev pub RunsSafely : Code → Result (Option State) EntryFault → (steps : ℕ) → Type 0
RunsSafely code (Ok entry) steps = IsSafeRun code entry steps
RunsSafely code (Err fault) steps = Unit {0}
