-- A machine's steps, one after another, are the program's run: for whoever runs a machine.
use Rattle.std.proofs.Common.{◌≡◌, ℕ, suc, ℤ, List, [], ◌∷◌, ◌++◌, Option, Some, None, Result, Ok, Err, refl, sym, ap, subst, ◌∙◌, append-nil}
use Rattle.std.proofs.lemmas.Option.{none-some}
use Rattle.xan_io.specs.declared.arg.Arg.{Arg}
use Rattle.xan_io.specs.Entry.{EntryFault}
use Rattle.xan_io.specs.Entry as fault
use Rattle.xan_io.specs.Outcome.{How, Outcome}
use Rattle.xan_io.specs.Outcome as how
use Rattle.dtal_code.specs.declared.program.DtalProgram.{DtalProgram}
use Rattle.dtal_code.specs.Machine.{State, Next, On, Off, after}
use Rattle.dtal_code.specs.ObjectCode.{Code, code_of}
use Rattle.dtal_code.specs.Running.{run}
use Rattle.dtal_code.specs.Runs.{program_entry, outcome_from}
use Rattle.dtal_machine.specs.declared.event.Event.{Event}
use Rattle.dtal_machine.specs.declared.event.Event.TheVariants.{Going, Print, Returned, NoStore, Overflow}
use Rattle.dtal_machine.specs.declared.loading.LoadError.TheVariants as load
use Rattle.dtal_machine.specs.Steps.{Loaded, Now, Live, Over, IsLive, steps_from, stepped, now_after, moved, end_event, event, run_from, run_on}
use Rattle.dtal_machine.specs.Loading.{fault_error, begins, loaded, IsRunOf}

run-zero : (code : Code) (printed : List ℤ) (state : State) → run code 0 printed state ≡ record { printed = printed; how = how.Running }
unfolding run
run-zero code printed state = refl

outcome_from-none : (code : Code) (steps : ℕ) → outcome_from code None steps ≡ record { printed = []; how = how.NoStore }
unfolding outcome_from
outcome_from-none code steps = refl

outcome_from-some : (code : Code) (state : State) (steps : ℕ) → outcome_from code (Some state) steps ≡ run code steps [] state
unfolding outcome_from
outcome_from-some code state steps = refl

-- ---- the entry

begins-run : (program : DtalProgram) (args : List Arg) (heap depth steps : ℕ) (entry : Result (Option State) EntryFault) (machine : Loaded)
    → program_entry program args heap depth ≡ entry → begins (code_of program) entry ≡ Ok machine → IsRunOf program args heap depth steps (run_on machine steps [])
begins-run program args heap depth steps (Ok None) machine is e = cc
begins-run program args heap depth steps (Ok (Some state)) machine is e =
    let same : record { code = (code_of program); now = Live state } ≡ machine = cc in
    record { entry = Some state; begins = is; is = outcome_from-some (code_of program) state steps ∙ ap (λ (m : Loaded). run_on m steps []) same }
begins-run program args heap depth steps (Err fault) machine is e = cc

pub run-begins : (program : DtalProgram) (args : List Arg) (heap depth steps : ℕ) (machine : Loaded) → loaded program args heap depth ≡ Ok machine
    → IsRunOf program args heap depth steps (run_on machine steps [])
run-begins program args heap depth steps machine e = begins-run program args heap depth steps (program_entry program args heap depth) machine refl e

no_fault_is_store : (fault : EntryFault) → fault_error fault ≡ load.NoStore → ⊥
no_fault_is_store fault.ArgCount e = cc
no_fault_is_store (fault.ArgKind argument) e = cc
no_fault_is_store (fault.ArgIndex argument) e = cc
no_fault_is_store (fault.EntryRow row) e = cc

begins-without : (program : DtalProgram) (args : List Arg) (heap depth steps : ℕ) (entry : Result (Option State) EntryFault)
    → program_entry program args heap depth ≡ entry → begins (code_of program) entry ≡ Err load.NoStore
    → IsRunOf program args heap depth steps (record { printed = []; how = how.NoStore })
begins-without program args heap depth steps (Ok None) is e = record { entry = None; begins = is; is = outcome_from-none (code_of program) steps }
begins-without program args heap depth steps (Ok (Some state)) is e = cc
begins-without program args heap depth steps (Err fault) is e = let clash : fault_error fault ≡ load.NoStore = cc in absurd (no_fault_is_store fault clash)

pub run-without_store : (program : DtalProgram) (args : List Arg) (heap depth steps : ℕ) → loaded program args heap depth ≡ Err load.NoStore
    → IsRunOf program args heap depth steps (record { printed = []; how = how.NoStore })
run-without_store program args heap depth steps e = begins-without program args heap depth steps (program_entry program args heap depth) refl e

begins-live : (program : DtalProgram) (entry : Result (Option State) EntryFault) (machine : Loaded) → begins (code_of program) entry ≡ Ok machine → IsLive machine.now
begins-live program (Ok None) machine e = cc
begins-live program (Ok (Some state)) machine e =
    let same : record { code = (code_of program); now = Live state } ≡ machine = cc in subst (λ (m : Loaded). IsLive m.now) same tt
begins-live program (Err fault) machine e = cc

pub run-live : (program : DtalProgram) (args : List Arg) (heap depth : ℕ) (machine : Loaded) → loaded program args heap depth ≡ Ok machine → IsLive machine.now
run-live program args heap depth machine e = begins-live program (program_entry program args heap depth) machine e

-- ---- steps

live-spent : (code : Code) (now : Now) (printed : List ℤ) → IsLive now → run_from code now 0 printed ≡ record { printed = printed; how = how.Running }
live-spent code (Live state) printed live = run-zero code printed state
live-spent code (Over end) printed live = absurd live

-- without further steps a run that goes on is not over
pub run-spent : (machine : Loaded) (printed : List ℤ) → IsLive machine.now → run_on machine 0 printed ≡ record { printed = printed; how = how.Running }
run-spent machine printed live = live-spent machine.code machine.now printed live

going-live : (next : Next) → event next ≡ Some Going → IsLive (now_after next)
going-live (On printed state) e = tt
going-live (Off (how.Returned word)) e = cc
going-live (Off how.NoStore) e = cc
going-live (Off how.Overflow) e = cc
going-live (Off how.Stuck) e = cc
going-live (Off how.Running) e = cc

print-live : (next : Next) (number : ℤ) → event next ≡ Some (Print number) → IsLive (now_after next)
print-live (On printed state) number e = tt
print-live (Off (how.Returned word)) number e = cc
print-live (Off how.NoStore) number e = cc
print-live (Off how.Overflow) number e = cc
print-live (Off how.Stuck) number e = cc
print-live (Off how.Running) number e = cc

-- one more step, whatever it is
run-step : (code : Code) (now : Now) (steps : ℕ) (printed : List ℤ)
    → run_from code now (suc steps) printed ≡ after (steps_from code now) printed (λ out state. run code steps out state)
unfolding run
run-step code (Live state) steps printed = refl
run-step code (Over how) steps printed = refl

-- what a step leaves, by what it tells
left : Event → Now → Code → ℕ → List ℤ → Outcome
left Going now code steps printed = run_from code now steps printed
left (Print number) now code steps printed = run_from code now steps (printed ++ number ∷ [])
left (Returned word) now code steps printed = record { printed = printed; how = how.Returned word }
left NoStore now code steps printed = record { printed = printed; how = how.NoStore }
left Overflow now code steps printed = record { printed = printed; how = how.Overflow }

end-left : (end : How) (code : Code) (steps : ℕ) (printed : List ℤ) (told : Event) → end_event end ≡ Some told
    → record { printed = printed; how = end } ≡ left told (Over end) code steps printed
unfolding left
end-left (how.Returned word) code steps printed told e = let same : Returned word ≡ told = cc in ap (λ (t : Event). left t (Over (how.Returned word)) code steps printed) same
end-left how.NoStore code steps printed told e = let same : NoStore ≡ told = cc in ap (λ (t : Event). left t (Over how.NoStore) code steps printed) same
end-left how.Overflow code steps printed told e = let same : Overflow ≡ told = cc in ap (λ (t : Event). left t (Over how.Overflow) code steps printed) same
end-left how.Stuck code steps printed told e = absurd (none-some told e)
end-left how.Running code steps printed told e = absurd (none-some told e)

next-left : (next : Next) (code : Code) (steps : ℕ) (printed : List ℤ) (told : Event) → event next ≡ Some told
    → after next printed (λ out state. run code steps out state) ≡ left told (now_after next) code steps printed
unfolding left
next-left (On None state) code steps printed told e =
    let same : Going ≡ told = cc in
    ap (λ out. run code steps out state) (append-nil printed) ∙ ap (λ (t : Event). left t (Live state) code steps printed) same
next-left (On (Some number) state) code steps printed told e =
    let same : Print number ≡ told = cc in ap (λ (t : Event). left t (Live state) code steps printed) same
next-left (Off end) code steps printed told e = end-left end code steps printed told e

run-left : (machine : Loaded) (steps : ℕ) (printed : List ℤ) (told : Event) → event (stepped machine) ≡ Some told
    → run_on machine (suc steps) printed ≡ left told (now_after (stepped machine)) machine.code steps printed
run-left machine steps printed told e =
    run-step machine.code machine.now steps printed ∙ next-left (stepped machine) machine.code steps printed told e

pub run-going : (machine : Loaded) (steps : ℕ) (printed : List ℤ) → event (stepped machine) ≡ Some Going
    → (run_on machine (suc steps) printed ≡ run_on (moved machine) steps printed) × IsLive (moved machine).now
unfolding left
run-going machine steps printed e = (run-left machine steps printed Going e, going-live (stepped machine) e)

pub run-print : (machine : Loaded) (steps : ℕ) (printed : List ℤ) (number : ℤ) → event (stepped machine) ≡ Some (Print number)
    → (run_on machine (suc steps) printed ≡ run_on (moved machine) steps (printed ++ number ∷ [])) × IsLive (moved machine).now
unfolding left
run-print machine steps printed number e = (run-left machine steps printed (Print number) e, print-live (stepped machine) number e)

pub run-returned : (machine : Loaded) (steps : ℕ) (printed : List ℤ) (word : ℤ) → event (stepped machine) ≡ Some (Returned word)
    → run_on machine (suc steps) printed ≡ record { printed = printed; how = how.Returned word }
unfolding left
run-returned machine steps printed word e = run-left machine steps printed (Returned word) e

pub run-no_store : (machine : Loaded) (steps : ℕ) (printed : List ℤ) → event (stepped machine) ≡ Some NoStore
    → run_on machine (suc steps) printed ≡ record { printed = printed; how = how.NoStore }
unfolding left
run-no_store machine steps printed e = run-left machine steps printed NoStore e

pub run-overflow : (machine : Loaded) (steps : ℕ) (printed : List ℤ) → event (stepped machine) ≡ Some Overflow
    → run_on machine (suc steps) printed ≡ record { printed = printed; how = how.Overflow }
unfolding left
run-overflow machine steps printed e = run-left machine steps printed Overflow e

-- ---- a loop of steps

-- So far the run that is to have this outcome has printed this, goes on in this machine, and has so many steps left: what a loop of
-- steps keeps.
pub record Stands (whole : Outcome) (machine : Loaded) (left : ℕ) (printed : List ℤ) : Type 0 where
  pub so_far : run_on machine left printed ≡ whole
  pub live : IsLive machine.now

pub stands-begins : (machine : Loaded) (steps : ℕ) → IsLive machine.now → Stands (run_on machine steps []) machine steps []
stands-begins machine steps live = record { so_far = refl; live = live }

module _ (whole : Outcome) (machine : Loaded) (left : ℕ) (printed : List ℤ) (stands : Stands whole machine left printed) where
  -- no step is left
  pub stands-spent : left ≡ 0 → whole ≡ record { printed = printed; how = how.Running }
  stands-spent none = sym stands.so_far ∙ ap (λ n. run_on machine n printed) none ∙ run-spent machine printed stands.live

  -- one step fewer is left
  module _ (fewer : ℕ) (one : left ≡ suc fewer) where
    so_far' : whole ≡ run_on machine (suc fewer) printed
    so_far' = sym stands.so_far ∙ ap (λ n. run_on machine n printed) one

    pub stands-going : (next : Loaded) → next ≡ moved machine → event (stepped machine) ≡ Some Going → Stands whole next fewer printed
    stands-going next same e =
        let to : Loaded → Outcome = λ m. run_on m fewer printed in
        let step = run-going machine fewer printed e in
        record { so_far = ap to same ∙ sym (so_far' ∙ step.0); live = subst (λ (m : Loaded). IsLive m.now) (sym same) step.1 }

    pub stands-print : (next : Loaded) (number : ℤ) → next ≡ moved machine → event (stepped machine) ≡ Some (Print number)
        → Stands whole next fewer (printed ++ number ∷ [])
    stands-print next number same e =
        let to : Loaded → Outcome = λ m. run_on m fewer (printed ++ number ∷ []) in
        let step = run-print machine fewer printed number e in
        record { so_far = ap to same ∙ sym (so_far' ∙ step.0); live = subst (λ (m : Loaded). IsLive m.now) (sym same) step.1 }

    pub stands-returned : (word : ℤ) → event (stepped machine) ≡ Some (Returned word) → whole ≡ record { printed = printed; how = how.Returned word }
    stands-returned word e = so_far' ∙ run-returned machine fewer printed word e

    pub stands-no_store : event (stepped machine) ≡ Some NoStore → whole ≡ record { printed = printed; how = how.NoStore }
    stands-no_store e = so_far' ∙ run-no_store machine fewer printed e

    pub stands-overflow : event (stepped machine) ≡ Some Overflow → whole ≡ record { printed = printed; how = how.Overflow }
    stands-overflow e = so_far' ∙ run-overflow machine fewer printed e
