-- Every run of an accepted program is safe.
use Rattle.std.proofs.Common.{◌≡◌, ℕ, ℤ, List, [], ◌∷◌, length, Option, Some, None, Result, Ok, Err, refl, sym, ap, subst}
use Rattle.std.specs.List.{All}
use Rattle.std.proofs.lemmas.List.Elements.{All-nil, All-cons}
use Rattle.std.proofs.lemmas.Option.{none-some}
use Rattle.xan_io.specs.Entry.{EntryFault}
use Rattle.xan_io.specs.declared.arg.Arg.{Arg}
use Rattle.state_types.specs.Words.{Headers, header_at}
use Rattle.state_types.specs.declared.state.StateType.{StateType}
use Rattle.dtal_code.specs.Acceptance.{Accepted}
use Rattle.dtal_code.specs.Machine.{Activation, State}
use Rattle.dtal_code.specs.ObjectCode.{code_of}
use Rattle.dtal_code.specs.Runs.{outcome_from, state_from, program_entry}
use Rattle.dtal_code.specs.Safety.{IsSafeRun, RunsSafely}
use Rattle.dtal_code.specs.declared.program.DtalProgram.{DtalProgram}
use Rattle.dtal_code.specs.declared.program.Function.{Function}
use Rattle.dtal_safety.specs.Fitting.{AllWait, StateFits}
use Rattle.dtal_safety.proofs.FirstStates.{entry_fits}
use Rattle.dtal_safety.proofs.SafeRuns.{is_safe, never_stuck, comes_fit}

module _ (program : DtalProgram) (accepted : Accepted program) where
  from_safe : (entry : Option State) (steps : ℕ) → ((state : State) → entry ≡ Some state → StateFits program accepted.states state) → IsSafeRun (code_of program) entry steps
  unfolding outcome_from state_from
  from_safe None steps fits = record { not_stuck = λ e. absurd (let bad : ⊥ = cc in bad); safe = λ state e. absurd (none-some state e) }
  from_safe (Some first) steps fits = record {
    not_stuck = never_stuck program accepted steps [] first (fits first refl);
    safe = λ state e. is_safe program accepted state (comes_fit program accepted steps first state (fits first refl) e);
  }

  entry_safe : (entry : Result (Option State) EntryFault) (steps : ℕ) → ((state : State) → entry ≡ Ok (Some state) → StateFits program accepted.states state)
      → RunsSafely (code_of program) entry steps
  entry_safe (Ok entry) steps fits = from_safe entry steps (λ state e. fits state (ap (λ o. let r : Result (Option State) EntryFault = Ok o in r) e))
  entry_safe (Err fault) steps fits = tt

  pub runs_safely : (args : List Arg) (heap depth steps : ℕ) → RunsSafely (code_of program) (program_entry program args heap depth) steps
  runs_safely args heap depth steps =
      entry_safe (program_entry program args heap depth) steps (λ state e. entry_fits program accepted args heap depth state e)

-- ---- for machines that keep places in arrays

waiting_places : (program : DtalProgram) (states : List (List StateType)) (headers : Headers) (callers : List Activation) (number : ℕ) (fun : Function) (values : List ℤ)
    (result_to : Option ℕ) → AllWait program states headers callers number fun values result_to → All (λ act. length act.places ≡ 256) callers
unfolding AllWait
waiting_places program states headers [] number fun values result_to wait = All-nil (λ (act : Activation). length act.places ≡ 256)
waiting_places program states headers (caller ∷ callers) number fun values None wait = absurd wait
waiting_places program states headers (caller ∷ callers) number fun values (Some place) wait =
    All-cons (λ (act : Activation). length act.places ≡ 256) caller callers wait.waits.stands.places
    (waiting_places program states headers callers wait.lower wait.outer wait.given caller.result_to wait.others)

-- each activation has 256 places
pub places_are_256 : (program : DtalProgram) (states : List (List StateType)) (state : State) → StateFits program states state
    → All (λ act. length act.places ≡ 256) state.activations
places_are_256 program states state fits =
    subst (λ acts. All (λ (act : Activation). length act.places ≡ 256) acts) (sym fits.uppermost)
    (All-cons (λ (act : Activation). length act.places ≡ 256) fits.top fits.callers fits.stands.places
    (waiting_places program states (header_at state.words) fits.callers fits.number fits.fun fits.values fits.top.result_to fits.wait))
