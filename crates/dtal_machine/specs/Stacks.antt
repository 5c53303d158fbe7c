-- How the fields of a run stand for a state.
use Rattle.std.specs.Prelude.{◌≡◌, ℕ, suc, ◌+◌, ◌*◌, ◌^◌, ◌<◌, ◌≤◌, ℤ, List, [], ◌∷◌, take, drop, length, vec_capacity, All, Option, Some, None}
use Rattle.dtal_code.specs.declared.limits.TheConstants.{PLACES}
use Rattle.dtal_code.specs.Machine.{Activation, State, Next, On, Off}
use Rattle.dtal_machine.specs.declared.run.Caller.{Caller}
use Rattle.dtal_machine.specs.declared.run.Run.{Run}
use Rattle.dtal_machine.specs.declared.done.Acted.{Acted}
use Rattle.dtal_machine.specs.declared.done.Acted.TheVariants as acted
use Rattle.dtal_machine.specs.declared.event.End.{End}
use Rattle.dtal_machine.specs.declared.event.Event.{Event}
use Rattle.dtal_machine.specs.declared.event.Event.TheVariants as event
use Rattle.dtal_machine.specs.Steps.{end_event}
use Rattle.dtal_machine.specs.declared.done.Done.{Done}
use Rattle.dtal_machine.specs.declared.done.Done.TheVariants as done
use Rattle.dtal_machine.specs.Acting.{HasRoom, Left, end_how}

abbrev pub activation : (at : ℕ) → (result_to : Option ℕ) → List ℤ → Activation
activation at result_to places = record { at = at; places = places; result_to = result_to }

-- Callers stand in order of calls, and their places one after the other. A state has the uppermost first.
unfoldable pub callers_on : (below : List Activation) → List Caller → (places : List ℤ) → List Activation
callers_on below [] places = below
callers_on below (caller ∷ callers) places =
    callers_on (activation caller.at caller.result_to (take PLACES places) ∷ below) callers (drop PLACES places)

-- how many words the places of all callers have
abbrev pub base_of : Run → ℕ
base_of run = PLACES * length run.callers.items

abbrev pub top_of : Run → Activation
top_of run = activation run.at run.result_to (drop (base_of run) run.places.items)

abbrev pub callers_of : Run → List Activation
callers_of run = callers_on [] run.callers.items (take (base_of run) run.places.items)

abbrev pub state_of : Run → State
state_of run = record {
  words = run.store.words.items;
  heap = run.store.heap;
  depth = run.depth;
  activations = top_of run ∷ callers_of run;
}

-- What every run keeps of its memory: each activation has its places, callers stand at instructions, and all memory that activations may want
-- is there.
pub record HasShape (run : Run) : Type 0 where
  pub store : HasRoom run.store
  pub places : length run.places.items ≡ PLACES * (length run.callers.items + 1)
  pub live : length run.callers.items + 1 ≤ run.depth
  pub waiting : All (λ caller. caller.at < 2 ^ 63) run.callers.items
  pub small : run.depth ≤ 65536
  pub room : PLACES * run.depth ≤ vec_capacity run.places
  pub callers_room : run.depth ≤ vec_capacity run.callers

-- ---- steps

-- what a step has done, by what it tells and the state after it
abbrev pub outcome : Acted → State → Next
outcome acted.GoesOn state = On None state
outcome (acted.Prints number) state = On (Some number) state
outcome (acted.Ends end) state = Off (end_how end)

-- and where the activation stands
abbrev pub settled : Done → (at : ℕ) → Acted × ℕ
settled done.GoesOn at = (acted.GoesOn, suc at)
settled (done.JumpsTo to) at = (acted.GoesOn, to)
settled (done.Prints number) at = (acted.Prints number, suc at)
settled (done.Ends end) at = (acted.Ends end, at)

abbrev pub with_top : State → List ℤ → (at : ℕ) → (result_to : Option ℕ) → (places : List ℤ) → (callers : List Activation) → State
with_top state words at result_to places callers = record state { words = words; activations = activation at result_to places ∷ callers }

-- the same, by what an instruction has left of the uppermost activation and the store
abbrev pub next_by : Done → State → Activation → List Activation → (places words : List ℤ) → Next
next_by done.GoesOn state top callers places words = On None (with_top state words (suc top.at) top.result_to places callers)
next_by (done.JumpsTo to) state top callers places words = On None (with_top state words to top.result_to places callers)
next_by (done.Prints number) state top callers places words = On (Some number) (with_top state words (suc top.at) top.result_to places callers)
next_by (done.Ends end) state top callers places words = Off (end_how end)

abbrev pub next_of : State → Activation → List Activation → Left → Next
next_of state top callers left = next_by left.done state top callers left.places left.store.words

-- a result goes to a caller where one is asked for
abbrev pub HasCaller : Option ℕ → (callers : ℕ) → Type 0
HasCaller None callers = Unit {0}
HasCaller (Some place) callers = 0 < callers

-- ---- machines

-- what a step tells
abbrev pub told_by : Acted → Option Event
told_by acted.GoesOn = Some event.Going
told_by (acted.Prints number) = Some (event.Print number)
told_by (acted.Ends end) = end_event (end_how end)

-- the end of the run, where it has come to one
abbrev pub ended_by : Acted → Option End → Option End
ended_by acted.GoesOn ended = ended
ended_by (acted.Prints number) ended = ended
ended_by (acted.Ends end) ended = Some end
