-- What the machine does with a program's code: what one instruction makes of a state, and what a run has printed after a number of steps.
use Rattle.std.specs.Prelude.{ℕ, zero, suc, ℤ, true, false, List, [], ◌∷◌, length, Option, Some, None, nat_lt, if◌then◌else◌, slice_get, slice_set}
use Rattle.xan_io.specs.Outcome.{NoStore, Stuck, Running, Outcome}
use Rattle.operation_rules.specs.Effects.{Effect, Writes, Prints, Takes, Calls, Gives, Ends, effect}
use Rattle.operation_rules.specs.FlatWords.{Flat, flat_words}
use Rattle.dtal_code.specs.declared.object.RunOp.{RunOp}
use Rattle.dtal_code.specs.Places.{places_of}
use Rattle.dtal_code.specs.Instructions.{Instruction, instruction_of}
use Rattle.dtal_code.specs.Machine.{Activation, State, Next, On, Off, goes_on, returns, after, goes_to}
use Rattle.dtal_code.specs.ObjectCode.{Code}

-- ---- words in places

abbrev pub with_first : Option ℤ → Option (List ℤ) → Option (List ℤ)
with_first (Some word) (Some words) = Some (word ∷ words)
with_first _ _ = None

-- the words of some places; a place that does not exist has none
unfoldable pub words_in : List ℤ → (reads : List ℕ) → Option (List ℤ)
words_in places [] = Some []
words_in places (place ∷ reads) = with_first (slice_get places place) (words_in places reads)

-- the places with a word in each of some, one after the other
unfoldable pub with_words : List ℤ → (writes : List ℕ) → List ℤ → Option (List ℤ)
with_words places [] [] = Some places
with_words places [] (word ∷ words) = None
with_words places (place ∷ writes) [] = None
with_words places (place ∷ writes) (word ∷ words) =
    if nat_lt place (length places) then with_words (slice_set places place word) writes words else None

-- ---- a step

-- the store of a state
abbrev pub store_of : State → Flat
store_of state = record { words = state.words; heap = state.heap }

abbrev pub goes_with : State → Activation → List Activation → Option (List ℤ) → Next
goes_with state top callers None = Off Stuck
goes_with state top callers (Some places) = goes_on state top callers None places

-- the words stand in the places, and the activation has moved on
abbrev pub puts : State → Activation → List Activation → List ℕ → List ℤ → Next
puts state top callers places words = goes_with state top callers (with_words top.places places words)

-- the activation stands at an instruction
abbrev pub at_instruction : Activation → ℕ → Activation
at_instruction act number = record act { at = number }

-- to an instruction, which has to exist
abbrev pub jumps : Code → State → Activation → List Activation → (target : ℕ) → Next
jumps code state top callers target =
    if nat_lt target (length code.ops) then On None (record state { activations = at_instruction top target ∷ callers }) else Off Stuck

abbrev pub first_activation : (start : ℕ) → List ℤ → Option ℕ → Activation
first_activation start words result_to = record { at = start; places = places_of words; result_to = result_to }

-- A function begins, and gives its result to the one place that the call writes. There are at most so many activations.
abbrev pub begins : State → (callers : List Activation) → Option ℕ → (writes : List ℕ) → List ℤ → Next
begins state callers (Some start) (place ∷ []) words =
    if nat_lt (length callers) state.depth then On None (record state { activations = first_activation start words (Some place) ∷ callers }) else Off NoStore
begins state callers _ _ words = Off Stuck

-- what an effect makes of the uppermost activation and its callers
abbrev pub acts : Code → State → Activation → List Activation → Instruction → Effect Flat → Next
acts code state top callers i (Writes words store) = puts (record state { words = store.words }) top callers i.writes words
acts code state top callers i (Prints number) = goes_on state top callers (Some number) top.places
acts code state top callers i (Takes true) = jumps code state top callers i.target
acts code state top callers i (Takes false) = goes_on state top callers None top.places
acts code state top callers i (Calls fun words) = begins state (top ∷ callers) (slice_get code.starts fun) i.writes words
acts code state top callers i (Gives word) = returns state top.result_to callers word
acts code state top callers i (Ends how) = Off how

abbrev pub done : Code → State → Activation → List Activation → Instruction → Option (List ℤ) → Next
done code state top callers i None = Off Stuck
done code state top callers i (Some words) = acts code state top callers i (effect flat_words i.operation words (store_of state))

abbrev pub performed : Code → State → Activation → List Activation → Instruction → Next
performed code state top callers i = done code state top callers i (words_in top.places i.reads)

-- where there is no instruction, nothing can be done
abbrev pub fetched : Code → State → Activation → List Activation → Option RunOp → Next
fetched code state top callers None = Off Stuck
fetched code state top callers (Some op) = performed code state top callers (instruction_of op)

abbrev pub stands : Code → State → List Activation → Next
stands code state [] = Off Stuck
stands code state (top ∷ callers) = fetched code state top callers (slice_get code.ops top.at)

-- one step of the machine that runs this code
unfoldable pub step : Code → State → Next
step code state = stands code state state.activations

-- ---- a run

-- how far the run from this state has come after a number of steps, with what was printed before
unfoldable pub run : Code → ℕ → List ℤ → State → Outcome
run code zero printed state = record { printed = printed; how = Running }
run code (suc steps) printed state = after (step code state) printed (run code steps)

-- the state that a run from this state has come to after a number of steps; where it has ended before, there is none
unfoldable pub comes_to : Code → ℕ → State → Option State
comes_to code zero state = Some state
comes_to code (suc steps) state = goes_to (step code state) (comes_to code steps)
