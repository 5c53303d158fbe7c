-- What is kept from step to step, and where a machine begins.
use Rattle.std.proofs.Common.{◌≡◌, ◌≢◌, ◌∙◌, ap, sym, subst, ℕ, ℤ, true, List, Option, Some, None}
use Rattle.std.specs.List.{slice_get}
use Rattle.xan_io.specs.Outcome.{Stuck}
use Rattle.operation_rules.specs.FlatWords.{is_whole}
use Rattle.dtal_code.specs.declared.object.RunOp.{RunOp}
use Rattle.dtal_code.specs.declared.program.DtalProgram.{DtalProgram}
use Rattle.dtal_code.specs.Acceptance.{Accepted}
use Rattle.dtal_code.specs.Machine.{Activation, Next, On, Off}
use Rattle.dtal_code.specs.ObjectCode.{Code, code_of}
use Rattle.dtal_code.specs.ObjectWords.{object_words}
use Rattle.dtal_code.specs.Running.{step}
use Rattle.dtal_code.specs.Safety.{IsSafe}
use Rattle.dtal_safety.proofs.SafeRuns.{is_safe, stays_fit}
use Rattle.dtal_machine.specs.declared.done.Acted.{Acted}
use Rattle.dtal_machine.specs.declared.done.Acted.TheVariants as acted
use Rattle.dtal_machine.specs.declared.run.Run.{Run}
use Rattle.dtal_machine.specs.CodedWords.{code_in, ops_in, StandsAt}
use Rattle.dtal_machine.specs.Kept.{stands_at, IsRunning, IsKept}
use Rattle.dtal_machine.specs.Stacks.{HasShape, top_of, state_of, outcome, told_by, ended_by}
use Rattle.dtal_machine.specs.Steps.{Loaded, Live, stepped, now_after, moved, event}
use Rattle.dtal_machine.proofs.CodedPrograms.{ops_again, program_fits}
use Rattle.dtal_machine.proofs.CodedPrograms as coded

-- the code that the words of a program's object code
pub code_again : (program : DtalProgram) (words starts : List ℕ) → Accepted program → words ≡ object_words (code_of program).ops → starts ≡ (code_of program).starts
    → code_in words starts ≡ code_of program
code_again program words starts accepted words-are starts-are =
    let ops = ap ops_in words-are ∙ ops_again (code_of program).ops (program_fits program accepted.grammar) in
    let by_ops : List RunOp → Code = λ os. record { ops = os; starts = starts } in
    let by_starts : List ℕ → Code = λ ss. record { ops = (code_of program).ops; starts = ss } in
    ap by_ops ops ∙ ap by_starts starts-are

module _ (words starts : List ℕ) (run : Run) (running : IsRunning words starts run) where
  same_code : code_in words starts ≡ code_of running.program
  same_code = code_again running.program words starts running.accepted running.words_are running.starts_are

  safe : IsSafe (code_of running.program) (state_of run)
  safe = is_safe running.program running.accepted (state_of run) running.fits

  pub whole : is_whole run.store.words.items ≡ true
  whole = running.fits.store.whole

  pub goes : step (code_in words starts) (state_of run) ≢ Off Stuck
  goes = subst (λ code. step code (state_of run) ≢ Off Stuck) (sym same_code) safe.goes

  pub stands : StandsAt words run.at
  stands =
      let top : top_of run ≡ safe.top = (let e = safe.uppermost in cc) in
      let here = ap (λ (act : Activation). slice_get (code_of running.program).ops act.at) top ∙ safe.exists in
      subst (λ ws. StandsAt ws run.at) (sym running.words_are) (coded.stands_at (code_of running.program).ops run.at safe.op (program_fits running.program running.accepted.grammar) here)

  kept_on : (printed : Option ℤ) (new : Run) → HasShape new → step (code_in words starts) (state_of run) ≡ On printed (state_of new) → IsRunning words starts new
  kept_on printed new shape e = record {
    program = running.program;
    accepted = running.accepted;
    words_are = running.words_are;
    starts_are = running.starts_are;
    fits = stays_fit running.program running.accepted (state_of run) (state_of new) printed running.fits (ap (λ code. step code (state_of run)) (sym same_code) ∙ e);
    shape = shape;
  }

  pub kept_after : (done : Acted) (new : Run) → HasShape new → step (code_in words starts) (state_of run) ≡ outcome done (state_of new) → IsKept (ended_by done None) words starts new
  kept_after acted.GoesOn new shape e = kept_on None new shape e
  kept_after (acted.Prints number) new shape e = kept_on (Some number) new shape e
  kept_after (acted.Ends end) new shape e = tt

-- ---- what a machine tells, and what it is then

module _ (words starts : List ℕ) (run new : Run) (machine : Loaded) (view : (let m : Loaded = record { code = code_in words starts; now = Live (state_of run) } in m) ≡ machine) where
  stepped_is : (next : Next) → step (code_in words starts) (state_of run) ≡ next → stepped machine ≡ next
  stepped_is next e = sym (ap (λ (m : Loaded). stepped m) view) ∙ e

  pub told_is : (done : Acted) → step (code_in words starts) (state_of run) ≡ outcome done (state_of new) → event (stepped machine) ≡ told_by done
  told_is acted.GoesOn e = ap event (stepped_is _ e)
  told_is (acted.Prints number) e = ap event (stepped_is _ e)
  told_is (acted.Ends end) e = ap event (stepped_is _ e)

  moves : (next : Next) → stepped machine ≡ next → record { code = code_in words starts; now = now_after next } ≡ moved machine
  moves next e =
      let now : Next → Loaded = λ n. record { code = code_in words starts; now = now_after n } in
      let code : Code → Loaded = λ c. record { code = c; now = now_after (stepped machine) } in
      ap now (sym e) ∙ ap code (ap (λ (m : Loaded). m.code) view)

  pub moved_is : (done : Acted) → step (code_in words starts) (state_of run) ≡ outcome done (state_of new)
      → record { code = code_in words starts; now = stands_at (ended_by done None) (state_of new) } ≡ moved machine
  moved_is acted.GoesOn e = moves _ (stepped_is _ e)
  moved_is (acted.Prints number) e = moves _ (stepped_is _ e)
  moved_is (acted.Ends end) e = moves _ (stepped_is _ e)
