-- The machine: its states, and what a step leaves.
use Rattle.std.specs.Prelude.{ℕ, suc, ℤ, List, [], ◌∷◌, ◌++◌, length, Option, Some, None, option_to_list, nat_lt, if◌then◌else◌, slice_set}
use Rattle.xan_io.specs.Outcome.{How, Returned, Stuck, Outcome}

-- ---- states

-- a call that has not returned
pub record Activation : Type 0 where
  -- the number of its next instruction; of a caller, the number of the call at which it stands
  pub at : ℕ
  -- the words of its places: 16 registers, then 240 slots
  pub places : List ℤ
  -- the place of its caller that takes the result; the first activation has none
  pub result_to : Option ℕ

pub record State : Type 0 where
  -- the used words of the store
  pub words : List ℤ
  -- how many words the store may have, and how many activations there may be at once
  pub heap : ℕ
  pub depth : ℕ
  -- the uppermost first, each before its caller
  pub activations : List Activation

-- what a step leaves: a number that it printed and a state, or an end
pub data Next : Type 0 where
  On : (printed : Option ℤ) → (state : State) → Next
  Off : (how : How) → Next

-- ---- a step

-- the activation stands at its next instruction, with these places
abbrev pub moved_on : Activation → List ℤ → Activation
moved_on act places = record act { at = suc act.at; places = places }

-- the uppermost activation has moved on
abbrev pub goes_on : State → Activation → List Activation → Option ℤ → List ℤ → Next
goes_on state top callers printed places = On printed (record state { activations = moved_on top places ∷ callers })

-- the word stands in the place, and its activation has moved on
abbrev pub writes : State → Activation → List Activation → ℕ → ℤ → Next
writes state top callers place word =
    if nat_lt place (length top.places) then goes_on state top callers None (slice_set top.places place word) else Off Stuck

-- the word goes to the caller, which goes on after its call; that of the first activation is the answer
abbrev pub returns : State → Option ℕ → List Activation → ℤ → Next
returns state None callers word = Off (Returned word)
returns state (Some place) [] word = Off Stuck
returns state (Some place) (caller ∷ callers) word = writes state caller callers place word

-- ---- behind a step

-- the run goes on from the state with what it has printed, or has ended
abbrev pub after : Next → List ℤ → (List ℤ → State → Outcome) → Outcome
after (On number state) printed more = more (printed ++ option_to_list number) state
after (Off how) printed more = record { printed = printed; how = how }

-- the state that a run goes on to; where it has ended, there is none
abbrev pub goes_to : Next → (State → Option State) → Option State
goes_to (On printed next) more = more next
goes_to (Off how) more = None
