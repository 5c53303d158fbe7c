-- Runs of an accepted program are safe.
use Rattle.std.proofs.Common.{◌≡◌, ◌≢◌, ℕ, zero, suc, ℤ, cond, List, [], ◌∷◌, ◌++◌, length, nat_lt, Bool as Test, true, false, Option, Some, None, option_to_list, refl, sym, ap, subst}
use Rattle.std.specs.Prelude.{slice_get, slice_set}
use Rattle.std.specs.List.{All}
use Rattle.std.proofs.lemmas.List.Elements.{All-nil}
use Rattle.std.proofs.lemmas.Option.{none-some, same_Some}
use Rattle.xan_io.specs.Outcome.{NoStore, Stuck, Outcome}
use Rattle.state_types.specs.declared.state.StateType.{StateType}
use Rattle.operation_rules.specs.Effects.{Effect, Writes, Prints, Takes, Calls, Gives, Ends, effect}
use Rattle.operation_rules.specs.FlatWords.{Flat, is_whole, flat_words}
use Rattle.dtal_code.specs.Acceptance.{Accepted}
use Rattle.dtal_code.specs.Instructions.{Instruction, instruction_of}
use Rattle.dtal_code.specs.Machine.{Activation, State, Next, On, Off, goes_on, returns, after, goes_to}
use Rattle.dtal_code.specs.ObjectCode.{Code, code_of}
use Rattle.dtal_code.specs.Running.{first_activation, at_instruction, store_of, words_in, goes_with, with_words, begins, acts, done, fetched, stands, step, run, comes_to}
use Rattle.dtal_code.specs.Safety.{touches, touched_with, touched_at, touched_by, touched, IsSafe}
use Rattle.dtal_code.specs.Allocated.{IsAllocated, words_after}
use Rattle.dtal_code.specs.declared.object.RunOp.{RunOp}
use Rattle.dtal_code.specs.declared.program.DtalProgram.{DtalProgram}
use Rattle.dtal_safety.specs.Fitting.{StateFits}
use Rattle.dtal_safety.proofs.LocatedStates.{located_code}
use Rattle.dtal_safety.proofs.StepsFit.{Leaves}
use Rattle.dtal_safety.proofs.StepsTaken.{step_leaves}
use Rattle.dtal_safety.proofs.TouchedCells.{left_by, Touching, touched_in}

-- ---- one step

leaves_safe : (program : DtalProgram) (states : List (List StateType)) (next : Next) → Leaves program states next → next ≢ Off Stuck
leaves_safe program states (On printed state) fits = λ e. absurd (let bad : ⊥ = cc in bad)
leaves_safe program states (Off how) h = λ e. h (let same : how ≡ Stuck = cc in same)

pub stays_fit : (program : DtalProgram) (accepted : Accepted program) (state next : State) (printed : Option ℤ) → StateFits program accepted.states state
    → step (code_of program) state ≡ On printed next → StateFits program accepted.states next
stays_fit program accepted state next printed fits e =
    subst (λ n. Leaves program accepted.states n) e (step_leaves program accepted state fits)

-- ---- what it touches

module _ (code : Code) (state : State) where
  put_words : (words : List ℤ) (top : Activation) (callers : List Activation) (places : Option (List ℤ))
      → goes_with (record state { words = words }) top callers places ≢ Off Stuck → words_after state (goes_with (record state { words = words }) top callers places) ≡ words
  put_words words top callers None h = absurd (h refl)
  put_words words top callers (Some places) h = refl

  jump_words : (acts : List Activation) (within : Test) → words_after state (cond within (On None (record state { activations = acts })) (Off Stuck)) ≡ state.words
  jump_words acts true = refl
  jump_words acts false = refl

  begin_words : (callers : List Activation) (start : Option ℕ) (places : List ℕ) (words : List ℤ) → words_after state (begins state callers start places words) ≡ state.words
  begin_words callers None places words = refl
  begin_words callers (Some start) [] words = refl
  begin_words callers (Some start) (p ∷ []) words = by (nat_lt (length callers) state.depth)
    where
      by : (room : Test) → words_after state (cond room (On None (record state { activations = first_activation start words (Some p) ∷ callers })) (Off NoStore)) ≡ state.words
      by true = refl
      by false = refl
  begin_words callers (Some start) (p ∷ q ∷ places) words = refl

  return_words : (result_to : Option ℕ) (callers : List Activation) (word : ℤ) → words_after state (returns state result_to callers word) ≡ state.words
  return_words None callers word = refl
  return_words (Some place) [] word = refl
  return_words (Some place) (caller ∷ callers) word = by (nat_lt place (length caller.places))
    where
      by : (within : Test) → words_after state (cond within (goes_on state caller callers None (slice_set caller.places place word)) (Off Stuck)) ≡ state.words
      by true = refl
      by false = refl

  -- the used words behind the step are those behind the effect, unless the step is stuck
  acts_words : (top : Activation) (callers : List Activation) (i : Instruction) (e : Effect Flat) → acts code state top callers i e ≢ Off Stuck
      → words_after state (acts code state top callers i e) ≡ left_by state e
  acts_words top callers i (Writes words new) h = put_words new.words top callers (with_words top.places i.writes words) h
  acts_words top callers i (Prints number) h = refl
  acts_words top callers i (Takes true) h = jump_words (at_instruction top i.target ∷ callers) (nat_lt i.target (length code.ops))
  acts_words top callers i (Takes false) h = refl
  acts_words top callers i (Calls fun words) h = begin_words (top ∷ callers) (slice_get code.starts fun) i.writes words
  acts_words top callers i (Gives word) h = return_words top.result_to callers word
  acts_words top callers i (Ends how) h = refl

  -- these addresses are allocated behind a step that leaves this
  Allocated : Next → List ℤ → Type 0
  Allocated next addresses = next ≢ Off Stuck → All (IsAllocated (words_after state next)) addresses

  nothing : (next : Next) → Allocated next []
  unfolding Allocated
  nothing next h = All-nil (IsAllocated (words_after state next))

  module _ (whole : is_whole state.words ≡ true) where
    done_allocated : (top : Activation) (callers : List Activation) (i : Instruction) (words : Option (List ℤ))
        → Allocated (done code state top callers i words) (touched_with i.operation state words)
    unfolding Allocated Touching
    done_allocated top callers i None = nothing (Off Stuck)
    done_allocated top callers i (Some words) = λ h.
        let e = effect flat_words i.operation words (store_of state) in
        subst (λ (ws : List ℤ). All (IsAllocated ws) (touches i.operation state words)) (sym (acts_words top callers i e h))
        (touched_in state whole i.operation words (λ same. h (ap (acts code state top callers i) same)))

    op_allocated : (top : Activation) (callers : List Activation) (op : Option RunOp) → Allocated (fetched code state top callers op) (touched_at op state top)
    unfolding Allocated
    op_allocated top callers None = nothing (Off Stuck)
    op_allocated top callers (Some op) = (let i = instruction_of op in done_allocated top callers i (words_in top.places i.reads))

    acts_allocated : (activations : List Activation) → Allocated (stands code state activations) (touched_by code state activations)
    unfolding Allocated
    acts_allocated [] = nothing (Off Stuck)
    acts_allocated (top ∷ callers) = op_allocated top callers (slice_get code.ops top.at)

    step_allocated : Allocated (step code state) (touched code state)
    unfolding step touched
    step_allocated = acts_allocated state.activations

pub step_touches : (code : Code) (state : State) → is_whole state.words ≡ true → step code state ≢ Off Stuck
    → All (IsAllocated (words_after state (step code state))) (touched code state)
unfolding Allocated
step_touches code state whole goes = step_allocated code state whole goes

pub is_safe : (program : DtalProgram) (accepted : Accepted program) (state : State) → StateFits program accepted.states state → IsSafe (code_of program) state
is_safe program accepted state fits =
    let goes = leaves_safe program accepted.states (step (code_of program) state) (step_leaves program accepted state fits) in
    record {
      top = fits.top;
      callers = fits.callers;
      uppermost = fits.uppermost;
      op = _;
      exists = located_code program accepted fits.top.at fits.number fits.fun fits.stands.state fits.stands.located;
      goes = goes;
      allocated = step_touches (code_of program) state fits.store.whole goes;
    }

-- ---- runs

after_good : (program : DtalProgram) (states : List (List StateType)) (next : Next) (printed : List ℤ) (more : List ℤ → State → Outcome) → Leaves program states next
    → ((out : List ℤ) (state : State) → StateFits program states state → (more out state).how ≢ Stuck) → (after next printed more).how ≢ Stuck
after_good program states (On number state) printed more fits each = each (printed ++ option_to_list number) state fits
after_good program states (Off how) printed more h each = h

to_good : (program : DtalProgram) (states : List (List StateType)) (next : Next) (more : State → Option State) (last : State) → Leaves program states next
    → ((state : State) → StateFits program states state → more state ≡ Some last → StateFits program states last) → goes_to next more ≡ Some last → StateFits program states last
to_good program states (On number state) more last fits each e = each state fits e
to_good program states (Off how) more last h each e = absurd (none-some last e)

module _ (program : DtalProgram) (accepted : Accepted program) where
  pub never_stuck : (steps : ℕ) (printed : List ℤ) (state : State) → StateFits program accepted.states state → (run (code_of program) steps printed state).how ≢ Stuck
  unfolding run
  never_stuck zero printed state fits = λ e. absurd (let bad : ⊥ = cc in bad)
  never_stuck (suc steps) printed state fits =
      after_good program accepted.states (step (code_of program) state) printed (run (code_of program) steps) (step_leaves program accepted state fits)
      (λ out next f. never_stuck steps out next f)

  pub comes_fit : (steps : ℕ) (state last : State) → StateFits program accepted.states state → comes_to (code_of program) steps state ≡ Some last
      → StateFits program accepted.states last
  unfolding comes_to
  comes_fit zero state last fits e = subst (λ s. StateFits program accepted.states s) (same_Some state last e) fits
  comes_fit (suc steps) state last fits e =
      to_good program accepted.states (step (code_of program) state) (comes_to (code_of program) steps) last (step_leaves program accepted state fits)
      (λ next f g. comes_fit steps next last f g) e
