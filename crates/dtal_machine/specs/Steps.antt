-- What contracts see of a machine, and what a step makes of it.
use Rattle.std.specs.Prelude.{ℕ, ℤ, List, Option, None, Some}
use Rattle.xan_io.specs.Outcome.{How, Stuck, Running, Outcome}
use Rattle.xan_io.specs.Outcome.{Returned as by_return, NoStore as without_store, Overflow as by_overflow}
use Rattle.dtal_code.specs.Machine.{State, Next, On, Off}
use Rattle.dtal_code.specs.ObjectCode.{Code}
use Rattle.dtal_code.specs.Running.{step, run}
use Rattle.dtal_machine.specs.declared.event.Event.{Event}
use Rattle.dtal_machine.specs.declared.event.Event.TheVariants.{Going, Print, Returned, NoStore, Overflow}

-- a run goes on from a state, or has ended
pub data Now : Type 0 where
  Live : (state : State) → Now
  Over : (how : How) → Now

-- it goes on
abbrev pub IsLive : Now → Type 0
IsLive (Live state) = Unit {0}
IsLive (Over how) = ⊥

-- a machine: the code that it runs, and how its run stands
pub record Loaded : Type 0 where
  pub code : Code
  pub now : Now

-- the step of a run that goes on; one that has ended ends in the same way again
abbrev pub steps_from : Code → Now → Next
steps_from code (Live state) = step code state
steps_from code (Over how) = Off how

abbrev pub stepped : Loaded → Next
stepped machine = steps_from machine.code machine.now

-- how the run stands after a step
abbrev pub now_after : Next → Now
now_after (On printed state) = Live state
now_after (Off how) = Over how

-- the machine after its step
abbrev pub moved : Loaded → Loaded
moved machine = record machine { now = now_after (stepped machine) }

-- what an end tells; there is no event of being stuck
abbrev pub end_event : How → Option Event
end_event (by_return word) = Some (Returned word)
end_event without_store = Some NoStore
end_event by_overflow = Some Overflow
end_event Stuck = None
end_event Running = None

-- what a step tells
abbrev pub event : Next → Option Event
event (On None state) = Some Going
event (On (Some number) state) = Some (Print number)
event (Off how) = end_event how

-- ---- whole runs

abbrev pub run_from : Code → Now → ℕ → List ℤ → Outcome
run_from code (Live state) steps printed = run code steps printed state
run_from code (Over how) steps printed = record { printed = printed; how = how }

-- the outcome of so many more steps, with what was printed before
abbrev pub run_on : Loaded → ℕ → List ℤ → Outcome
run_on machine steps printed = run_from machine.code machine.now steps printed
