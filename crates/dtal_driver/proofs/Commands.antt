-- What comes of a command, from what came of its parts.
use Rattle.std.proofs.Common.{◌≡◌, ◌≢◌, ◌∙◌, inl, inr, ℕ, List, [], Option, None, Some, Result, Ok, Err, refl, sym, ap, subst}
use Rattle.std.specs.Prelude.{option_map, IfOk, IfErr}
use Rattle.std.specs.Io.KnownBytes.{append_known}
use Rattle.xan_io.specs.declared.arg.Arg.{Arg}
use Rattle.xan_io.specs.Entry.{EntryFault}
use Rattle.xan_io.specs.Entry as fault
use Rattle.xan_io.specs.Faults.{Rose}
use Rattle.xan_io.specs.Outcome.{How, Outcome}
use Rattle.xan_io.specs.Outcome as how
use Rattle.xan_io.specs.Written.{AppendsPrefix}
use Rattle.xan_io.proofs.Puts.{append_known-twice, prefix_behind, prefix_within}
use Rattle.dtal_code.specs.declared.program.DtalProgram.{DtalProgram}
use Rattle.dtal_code.specs.declared.refusal.Where.{Where}
use Rattle.dtal_code.specs.declared.refusal.Rule.{Rule}
use Rattle.dtal_code.specs.Machine.{State}
use Rattle.dtal_code.specs.ObjectCode.{Code, code_of}
use Rattle.dtal_code.specs.Runs.{program_entry, outcome_from}
use Rattle.dtal_code.specs.Safety.{IsSafeRun, RunsSafely}
use Rattle.dtal_code.proofs.VerifiedPrograms.{accepted_is_verified}
use Rattle.dtal_machine.specs.declared.loading.LoadError.{LoadError}
use Rattle.dtal_machine.specs.declared.loading.LoadError.TheVariants as load
use Rattle.dtal_machine.specs.Loading.{fault_error, begins, loaded, Loads, IsRunOf}
use Rattle.dtal_machine.specs.Steps.{Loaded, run_on}
use Rattle.dtal_machine.proofs.DrivenMachines.{run-begins, run-live}
use Rattle.dtal_driver.specs.declared.answer.Answer.{Answer}
use Rattle.dtal_driver.specs.declared.answer.Answer.TheVariants as answer
use Rattle.run_options.specs.declared.options.Limits.{Limits}
use Rattle.dtal_driver.specs.declared.run.End.{End}
use Rattle.dtal_driver.specs.declared.run.End.TheVariants as ends
use Rattle.dtal_driver.specs.Answers.{line_of, number_lines}
use Rattle.dtal_driver.specs.Causes.{IsRefusedProgram, IsVerified, IsDenied, IsLoaded, IsUnbegun, IsNotLoaded, IsLoadedFrom, IsOfText, Cause, NoCommand, ReadFailed, Memory, Told, Says, Went, RunSaid}
use Rattle.dtal_driver.specs.Report.{Report, plain, end_of, how_of, answer_of, ended, fault_answer, run_report, accepted_report, program_report, Reports, TooLong, NoProgram, OfProgram}
use Rattle.dtal_driver.specs.Stops.{of_load}
use Rattle.dtal_driver.specs.VerifiedTexts.{accepted_answer}
use Rattle.dtal_driver.specs.Words.{Meant, Verify, Run, text_of}

-- ---- a text

module _ (content : List ℕ → Option (List ℕ)) (command : Meant) (reads reads' : List ℕ → ℕ) where
  -- what is reported of its bytes
  told-cause : (said : Answer) → IsOfText said → ((bytes : List ℕ) → content (text_of command) ≡ Some bytes → Reports command bytes (plain said))
      → Cause (Some command) content reads reads' (plain said)
  told-cause said of_text reports = Told (record { command = command; is = refl; of_text = of_text; told = reports })

  of_refused : (bytes : List ℕ) (at : Where) (rule : Rule) → IsRefusedProgram bytes at rule → Reports command bytes (plain (answer.Refused at rule))
  of_refused bytes at rule r = OfProgram r.text.short r.program r.text.spells (ap (program_report command r.program) r.refused)

  -- an answer in place of an accepted program
  pub denied-cause : (said : Answer) → IsDenied (content (text_of command)) (reads (text_of command)) (reads' (text_of command)) said
      → Cause (Some command) content reads reads' (plain said)
  denied-cause answer.ReadFailed r = ReadFailed (record { command = command; is = refl; rose = r }) refl
  denied-cause answer.Memory r = Memory refl
  denied-cause answer.TooLong r = told-cause answer.TooLong tt (λ bytes here. TooLong (r bytes here) refl)
  denied-cause (answer.NoProgram at) r = told-cause (answer.NoProgram at) tt (λ bytes here. (let none = r bytes here in NoProgram none.short at none.longest refl))
  denied-cause (answer.Refused at rule) r = told-cause (answer.Refused at rule) tt (λ bytes here. of_refused bytes at rule (r bytes here))
  denied-cause answer.NoCommand r = absurd r
  denied-cause (answer.Accepted f n) r = absurd r
  denied-cause answer.ArgCount r = absurd r
  denied-cause (answer.ArgKind n) r = absurd r
  denied-cause (answer.ArgIndex n) r = absurd r
  denied-cause (answer.EntryRow n) r = absurd r
  denied-cause (answer.Returned word) r = absurd r
  denied-cause answer.NoStore r = absurd r
  denied-cause answer.Overflow r = absurd r
  denied-cause (answer.StepsEnded n) r = absurd r

  module _ (program : DtalProgram) (v : IsVerified (content (text_of command)) program) where
    -- what is reported of an accepted program is reported of its text
    of_accepted : (bytes : List ℕ) (report : Report) → content (text_of command) ≡ Some bytes → accepted_report command program ≡ Some report → Reports command bytes report
    of_accepted bytes report here is =
        let t = v.told bytes here in
        OfProgram t.short program t.spells (ap (program_report command program) (accepted_is_verified program v.accepted) ∙ is)

    accepted-cause : (said : Answer) → IsOfText said → accepted_report command program ≡ Some (plain said) → Cause (Some command) content reads reads' (plain said)
    accepted-cause said of_text is = told-cause said of_text (λ bytes here. of_accepted bytes (plain said) here is)

pub verified-cause : (content : List ℕ → Option (List ℕ)) (text : List ℕ) (reads reads' : List ℕ → ℕ) (program : DtalProgram) (said : Answer) → IsVerified (content text) program
    → said ≡ accepted_answer program → Cause (Some (Verify text)) content reads reads' (plain said)
verified-cause content text reads reads' program said v is =
    accepted-cause content (Verify text) reads reads' program v said (subst IsOfText (sym is) tt) (ap (λ a. Some (plain a)) (sym is))

-- ---- the start of a run

module _ (content : List ℕ → Option (List ℕ)) (text : List ℕ) (limits : Limits) (args : List Arg) (program : DtalProgram) (v : IsVerified (content text) program) where
  pub not_loaded-cause : (reads reads' : List ℕ → ℕ) (said : Answer) → IsNotLoaded program limits args said → Cause (Some (Run text limits args)) content reads reads' (plain said)
  not_loaded-cause reads reads' said (inl memory) = Memory (ap plain memory)
  not_loaded-cause reads reads' said (inr unbegun) = accepted-cause content (Run text limits args) reads reads' program v said unbegun.of_text unbegun.is

  pub loaded-from : (machine : Loaded) → IsLoaded program limits args machine → IsLoadedFrom text limits args (content text) machine
  loaded-from machine loads = record {
    live = loads.live;
    goes = loads.goes;
    told = λ bytes here report is.
        of_accepted content (Run text limits args) (λ _. 0) (λ _. 0) program v bytes report here
        (ap (run_report (code_of program) limits.units) loads.run.begins ∙ ap (ended limits.units) loads.run.is ∙ is);
  }

-- ---- a machine

-- the run is not stuck, since no run of the program is
goes_as : (program : DtalProgram) (args : List Arg) (heap depth steps : ℕ) (outcome : Outcome) → IsRunOf program args heap depth steps outcome
    → RunsSafely (code_of program) (program_entry program args heap depth) steps → outcome.how ≢ how.Stuck
goes_as program args heap depth steps outcome run safely =
    let safe : IsSafeRun (code_of program) run.entry steps = subst (λ entry. RunsSafely (code_of program) entry steps) run.begins safely in
    subst (λ (o : Outcome). o.how ≢ how.Stuck) run.is safe.not_stuck

fault-of_text : (fault : EntryFault) → IsOfText (fault_answer fault)
fault-of_text fault.ArgCount = tt
fault-of_text (fault.ArgKind argument) = tt
fault-of_text (fault.ArgIndex argument) = tt
fault-of_text (fault.EntryRow row) = tt

fault-answered : (fault : EntryFault) → of_load (fault_error fault) ≡ fault_answer fault
fault-answered fault.ArgCount = refl
fault-answered (fault.ArgKind argument) = refl
fault-answered (fault.ArgIndex argument) = refl
fault-answered (fault.EntryRow row) = refl

without_store : (code : Code) (steps : ℕ) → run_report code steps (Ok None) ≡ Some (plain answer.NoStore)
unfolding outcome_from
without_store code steps = refl

module _ (program : DtalProgram) (limits : Limits) (args : List Arg) where
  pub loads : RunsSafely (code_of program) (program_entry program args limits.heap limits.depth) limits.units → (machine : Loaded)
      → loaded program args limits.heap limits.depth ≡ Ok machine → IsLoaded program limits args machine
  loads safely machine e =
      let run = run-begins program args limits.heap limits.depth limits.units machine e in
      record {
        live = run-live program args limits.heap limits.depth machine e;
        goes = goes_as program args limits.heap limits.depth limits.units _ run safely;
        run = run;
      }

  unbegun-from : (entry : Result (Option State) EntryFault) (error : LoadError) → program_entry program args limits.heap limits.depth ≡ entry
      → begins (code_of program) entry ≡ Err error → IsUnbegun program limits args (of_load error)
  unbegun-from (Ok None) error is e =
      let same : load.NoStore ≡ error = cc in
      subst (λ error'. IsUnbegun program limits args (of_load error')) same
      (record { of_text = tt; is = ap (run_report (code_of program) limits.units) is ∙ without_store (code_of program) limits.units })
  unbegun-from (Ok (Some state)) error is e = cc
  unbegun-from (Err fault) error is e =
      let same : fault_error fault ≡ error = cc in
      let answered : fault_answer fault ≡ of_load error = sym (fault-answered fault) ∙ ap of_load same in
      subst (IsUnbegun program limits args) answered
      (record { of_text = fault-of_text fault; is = ap (run_report (code_of program) limits.units) is })

  -- an error of a load is the fault of the arguments, or that there is no store for them, or memory ran out
  pub not_loaded : (error : LoadError) → Loads (loaded program args limits.heap limits.depth) (Err error) → IsNotLoaded program limits args (of_load error)
  not_loaded load.ArgCount e = inr (unbegun-from _ load.ArgCount refl e)
  not_loaded (load.ArgKind argument) e = inr (unbegun-from _ (load.ArgKind argument) refl e)
  not_loaded (load.ArgIndex argument) e = inr (unbegun-from _ (load.ArgIndex argument) refl e)
  not_loaded (load.EntryRow row) e = inr (unbegun-from _ (load.EntryRow row) refl e)
  not_loaded load.NoStore e = inr (unbegun-from _ load.NoStore refl e)
  not_loaded load.Memory e = inl refl

-- ---- a run

end_of-how : (end : End) → end_of (how_of end) ≡ Some end
end_of-how (ends.Returned word) = refl
end_of-how ends.NoStore = refl
end_of-how ends.Overflow = refl
end_of-how ends.Spent = refl

end-of_text : (steps : ℕ) (end : End) → IsOfText (answer_of steps end)
end-of_text steps (ends.Returned word) = tt
end-of_text steps ends.NoStore = tt
end-of_text steps ends.Overflow = tt
end-of_text steps ends.Spent = tt

end_is : (found : How) → found ≢ how.Stuck → (end : End) × (found ≡ how_of end)
end_is (how.Returned word) goes = (ends.Returned word, refl)
end_is how.NoStore goes = (ends.NoStore, refl)
end_is how.Overflow goes = (ends.Overflow, refl)
end_is how.Stuck goes = absurd (goes refl)
end_is how.Running goes = (ends.Spent, refl)

abbrev report_of_end : (steps : ℕ) → Outcome → End → Report
report_of_end steps outcome end = record { printed = outcome.printed; answer = answer_of steps end }

ended-report : (steps : ℕ) (outcome : Outcome) (end : End) → outcome.how ≡ how_of end → ended steps outcome ≡ Some (report_of_end steps outcome end)
ended-report steps outcome end e = ap (λ o. option_map (report_of_end steps outcome) o) (ap end_of e ∙ end_of-how end)

module _ (steps : ℕ) (outcome : Outcome) (out mid out' : Option (List ℕ)) (status faults faults' : ℕ) where
  -- the numbers are put, and then this of the line of the end
  pub run-said : (end : End) (between : ℕ) → outcome.how ≡ how_of end → mid ≡ append_known out (number_lines outcome.printed) → between ≡ faults
      → Says (plain (answer_of steps end)) status between faults' mid out' → RunSaid steps outcome status faults faults' out out'
  run-said end between is numbers counted (inl all) = record {
    report = report_of_end steps outcome end;
    is = ended-report steps outcome end is;
    of_text = end-of_text steps end;
    said = inl
        (record {
          status_is = all.status_is;
          said = all.said ∙ ap (λ told. append_known told (line_of (answer_of steps end))) numbers
              ∙ append_known-twice out (number_lines outcome.printed) (line_of (answer_of steps end));
          counted = all.counted ∙ counted;
        });
  }
  run-said end between is numbers counted (inr part) = record {
    report = report_of_end steps outcome end;
    is = ended-report steps outcome end is;
    of_text = end-of_text steps end;
    said = inr
        (record {
          status_is = part.status_is;
          part = prefix_behind out out' (number_lines outcome.printed) (line_of (answer_of steps end))
              (subst (λ told. AppendsPrefix told out' (line_of (answer_of steps end))) numbers part.part);
          rose = subst (λ n. Rose n faults') counted part.rose;
        });
  }

  -- only a part of the numbers is put
  pub run-cut : outcome.how ≢ how.Stuck → status ≡ 4 → AppendsPrefix out out' (number_lines outcome.printed) → Rose faults faults'
      → RunSaid steps outcome status faults faults' out out'
  run-cut goes four part rose =
      let end = end_is outcome.how goes in
      record {
        report = report_of_end steps outcome end.0;
        is = ended-report steps outcome end.0 end.1;
        of_text = end-of_text steps end.0;
        said = inr (record { status_is = four; part = prefix_within out out' (number_lines outcome.printed) (line_of (answer_of steps end.0)) part; rose = rose });
      }

-- ---- a command

module _ (meant : Option Meant) (command : Meant) (is : meant ≡ Some command) (content : List ℕ → Option (List ℕ)) (reads reads' : List ℕ → ℕ)
    (status faults faults' : ℕ) (out out' : Option (List ℕ)) where
  pub went-said : (said : Answer) → Cause (Some command) content reads reads' (plain said) → Says (plain said) status faults faults' out out'
      → Went meant content reads reads' status faults faults' out out'
  went-said said cause says = record {
    report = plain said;
    cause = subst (λ m. Cause m content reads reads' (plain said)) (sym is) cause;
    said = says;
  }

pub went-run : (meant : Option Meant) (text : List ℕ) (limits : Limits) (args : List Arg) (content : List ℕ → Option (List ℕ)) (reads reads' : List ℕ → ℕ) (machine : Loaded)
    (status faults faults' : ℕ) (out out' : Option (List ℕ)) → meant ≡ Some (Run text limits args) → IsLoadedFrom text limits args (content text) machine
    → RunSaid limits.units (run_on machine limits.units []) status faults faults' out out' → Went meant content reads reads' status faults faults' out out'
went-run meant text limits args content reads reads' machine status faults faults' out out' is from run = record {
  report = run.report;
  cause = Told (record { command = Run text limits args; is = is; of_text = run.of_text; told = λ bytes here. from.told bytes here run.report run.is });
  said = run.said;
}

pub went-as : (meant : Option Meant) (command : Meant) → meant ≡ Some command → (content : List ℕ → Option (List ℕ)) (reads reads' : List ℕ → ℕ)
    (status faults faults' : ℕ) (out out' : Option (List ℕ)) → Went (Some command) content reads reads' status faults faults' out out'
    → Went meant content reads reads' status faults faults' out out'
went-as meant command is content reads reads' status faults faults' out out' went =
    subst (λ m. Went m content reads reads' status faults faults' out out') (sym is) went

pub went-no_command : (meant : Option Meant) (content : List ℕ → Option (List ℕ)) (reads reads' : List ℕ → ℕ) (status faults faults' : ℕ)
    (out out' : Option (List ℕ)) → meant ≡ None → Says (plain answer.NoCommand) status faults faults' out out'
    → Went meant content reads reads' status faults faults' out out'
went-no_command meant content reads reads' status faults faults' out out' none says = record { report = plain answer.NoCommand; cause = NoCommand none refl; said = says }

pub went-memory : (meant : Option Meant) (content : List ℕ → Option (List ℕ)) (reads reads' : List ℕ → ℕ) (status faults faults' : ℕ)
    (out out' : Option (List ℕ)) → Says (plain answer.Memory) status faults faults' out out' → Went meant content reads reads' status faults faults' out out'
went-memory meant content reads reads' status faults faults' out out' says = record { report = plain answer.Memory; cause = Memory refl; said = says }

-- ---- answers

pub if_ok-from : {A B : Type 0} (P Q : A → Type 0) → ((x : A) → P x → Q x) → (r : Result A B) → IfOk r P → IfOk r Q
if_ok-from {A} {B} P Q from (Ok x) p = from x p
if_ok-from {A} {B} P Q from (Err e) p = tt

pub if_err-from : {A B : Type 0} (P Q : B → Type 0) → ((e : B) → P e → Q e) → (r : Result A B) → IfErr r P → IfErr r Q
if_err-from {A} {B} P Q from (Ok x) p = tt
if_err-from {A} {B} P Q from (Err e) p = from e p
