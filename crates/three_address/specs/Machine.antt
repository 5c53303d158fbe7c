-- What the code over places does: states, what one instruction makes of a state, and what a run has printed after a number of steps.
use Rattle.std.specs.Prelude.{ℕ, zero, suc, ◌-◌, ℤ, pos, true, false, List, [], ◌∷◌, ◌++◌, length, replicate, Option, Some, None, option_to_list, nat_lt, if◌then◌else◌, slice_get, slice_set}
use Rattle.xan_io.specs.Outcome.{How, Returned, NoStore, Stuck, Running, Outcome}
use Rattle.operation_rules.specs.Effects.{Effect, Writes, Prints, Takes, Calls, Gives, Ends, effect}
use Rattle.operation_rules.specs.FlatWords.{Flat, flat_words}
use Rattle.three_address.specs.Flow.{label_at}
use Rattle.three_address.specs.Instructions.{Instruction, instruction_of}
use Rattle.three_address.specs.declared.function.LowFun.{LowFun}
use Rattle.three_address.specs.declared.function.TheConstants.{PLACES}
use Rattle.three_address.specs.declared.instruction.LowInstr.{LowInstr}

-- ---- states

-- a call that has not returned
pub record Activation : Type 0 where
  -- the number of its function, and the position of its next instruction; of a caller, that of the call at which it stands
  pub fun : ℕ
  pub at : ℕ
  -- the words of its places
  pub places : List ℤ
  -- the place of its caller that takes the result; the first activation has none
  pub result_to : Option ℕ

pub record State : Type 0 where
  pub store : Flat
  -- how many activations there may be at once
  pub depth : ℕ
  -- the uppermost first, each before its caller
  pub activations : List Activation

-- what a step leaves: a number that it printed and a state, or an end
pub data Next : Type 0 where
  On : (printed : Option ℤ) → (state : State) → Next
  Off : (how : How) → Next

-- ---- words in places

abbrev pub with_word : Option ℤ → Option (List ℤ) → Option (List ℤ)
with_word (Some word) (Some words) = Some (word ∷ words)
with_word _ _ = None

-- the words of some places; a place that does not exist has none
unfoldable pub words_in : List ℤ → (reads : List ℕ) → Option (List ℤ)
words_in places [] = Some []
words_in places (place ∷ reads) = with_word (slice_get places place) (words_in places reads)

-- the places with a word in each of some, one after the other
unfoldable pub with_words : List ℤ → (writes : List ℕ) → List ℤ → Option (List ℤ)
with_words places [] [] = Some places
with_words places [] (word ∷ words) = None
with_words places (place ∷ writes) [] = None
with_words places (place ∷ writes) (word ∷ words) =
    if nat_lt place (length places) then with_words (slice_set places place word) writes words else None

-- the places of an activation that begins: these words first, then 0
unfoldable pub places_of : List ℤ → List ℤ
places_of words = words ++ replicate (PLACES - length words) (pos 0)

-- ---- a step

-- the activation stands at this position, with these places
abbrev pub moved : Activation → (at : ℕ) → List ℤ → Activation
moved act at places = record act { at = at; places = places }

abbrev pub stands_at : State → Activation → List Activation → Option ℤ → (at : ℕ) → List ℤ → Next
stands_at state top callers printed at places = On printed (record state { activations = moved top at places ∷ callers })

-- it has moved on to its next instruction
abbrev pub goes_on : State → Activation → List Activation → Option ℤ → List ℤ → Next
goes_on state top callers printed places = stands_at state top callers printed (suc top.at) places

abbrev pub goes_with : State → Activation → List Activation → Option (List ℤ) → Next
goes_with state top callers None = Off Stuck
goes_with state top callers (Some places) = goes_on state top callers None places

-- the words stand in the places
abbrev pub writes : State → Activation → List Activation → List ℕ → List ℤ → Next
writes state top callers places words = goes_with state top callers (with_words top.places places words)

-- to the position of a label
abbrev pub jumps : State → Activation → List Activation → Option ℕ → Next
jumps state top callers None = Off Stuck
jumps state top callers (Some at) = stands_at state top callers None at top.places

-- the word goes to the caller, which goes on after its call; that of the first activation is the answer
abbrev pub returns : State → Option ℕ → List Activation → ℤ → Next
returns state None callers word = Off (Returned word)
returns state (Some place) [] word = Off Stuck
returns state (Some place) (caller ∷ callers) word = writes state caller callers (place ∷ []) (word ∷ [])

-- a function begins, and gives its result to the one place that the call writes; there are at most so many activations
abbrev pub begins : State → (callers : List Activation) → (fun : ℕ) → Option LowFun → (writes : List ℕ) → List ℤ → Next
begins state callers fun (Some _) (place ∷ []) words =
    if nat_lt (length callers) state.depth
    then On None (record state { activations = record { fun = fun; at = 0; places = places_of words; result_to = Some place } ∷ callers })
    else Off NoStore
begins state callers fun _ _ words = Off Stuck

-- what an effect makes of the uppermost activation and its callers, where this is the position of the instruction's label
abbrev pub acts : List LowFun → State → Activation → List Activation → (writes : List ℕ) → (label : Option ℕ) → Effect Flat → Next
acts funs state top callers places label (Writes words store) = writes (record state { store = store }) top callers places words
acts funs state top callers places label (Prints number) = goes_on state top callers (Some number) top.places
acts funs state top callers places label (Takes true) = jumps state top callers label
acts funs state top callers places label (Takes false) = goes_on state top callers None top.places
acts funs state top callers places label (Calls fun words) = begins state (top ∷ callers) fun (slice_get funs fun) places words
acts funs state top callers places label (Gives word) = returns state top.result_to callers word
acts funs state top callers places label (Ends how) = Off how

abbrev pub done : List LowFun → State → Activation → List Activation → Instruction → (label : Option ℕ) → Option (List ℤ) → Next
done funs state top callers i label None = Off Stuck
done funs state top callers i label (Some words) = acts funs state top callers i.writes label (effect flat_words i.operation words state.store)

abbrev pub performed : List LowFun → State → Activation → List Activation → (label : Option ℕ) → Option Instruction → Next
performed funs state top callers label None = Off Stuck
performed funs state top callers label (Some i) = done funs state top callers i label (words_in top.places i.reads)

-- where there is no instruction, nothing can be done
abbrev pub fetched : List LowFun → State → Activation → List Activation → (labels : List ℕ) → Option LowInstr → Next
fetched funs state top callers labels None = Off Stuck
fetched funs state top callers labels (Some instr) = performed funs state top callers (label_at labels instr.target) (instruction_of instr)

abbrev pub within : List LowFun → State → Activation → List Activation → Option LowFun → Next
within funs state top callers None = Off Stuck
within funs state top callers (Some fun) = fetched funs state top callers fun.labels (slice_get fun.code top.at)

abbrev pub stands : List LowFun → State → List Activation → Next
stands funs state [] = Off Stuck
stands funs state (top ∷ callers) = within funs state top callers (slice_get funs top.fun)

-- one step of the code of these functions
unfoldable pub step : List LowFun → State → Next
step funs state = stands funs state state.activations

-- ---- a run

-- the run goes on from the state with what it has printed, or has ended
abbrev pub after : Next → List ℤ → (List ℤ → State → Outcome) → Outcome
after (On number state) printed more = more (printed ++ option_to_list number) state
after (Off how) printed more = record { printed = printed; how = how }

-- how far the run from this state has come after a number of steps, with what was printed before
unfoldable pub run : List LowFun → ℕ → List ℤ → State → Outcome
run funs zero printed state = record { printed = printed; how = Running }
run funs (suc steps) printed state = after (step funs state) printed (run funs steps)
