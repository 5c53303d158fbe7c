-- From what a command did to the cause of its answer, and from the cause to the report.
use Rattle.std.proofs.Common.{◌≡◌, ◌≢◌, ℕ, Bool, true, false, List, Option, Some, None, option_map, Result, Ok, Err, refl, sym, ap, ◌∙◌, subst, ◌⊎◌, inl, inr, ⊎_elim}
use Rattle.std.specs.Str.{bytes_eq}
use Rattle.std.proofs.lemmas.Slice.Eq.{bytes_eq-Decides}
use Rattle.xan_io.specs.Faults.{Rose}
use Rattle.xan_io.specs.declared.arg.Arg.{Arg}
use Rattle.run_options.specs.declared.options.Limits.{Limits}
use Rattle.source_runs.specs.Runs.{FindsRun}
use Rattle.xanadu_tree.specs.Plain as plain
use Rattle.typed_core.specs.declared.goal.GoalAt.{GoalAt}
use Rattle.xanadu_driver.specs.Finding.{ProvesTold}
use Rattle.command_reports.specs.declared.answer.Answer.{Answer}
use Rattle.command_reports.specs.declared.answer.Answer.TheVariants.{Built, NoCommand, ReadFailed, WriteFailed, Memory, Refused}
use Rattle.command_reports.specs.declared.answer.Counts.{Counts}
use Rattle.command_reports.specs.declared.refusal.Refusal.{Refusal}
use Rattle.command_reports.specs.declared.refusal.SourceError.{SourceError}
use Rattle.command_reports.specs.declared.refusal.SourceError.TheVariants as error
use Rattle.command_reports.specs.Answers.{Keeps}
use Rattle.xanadu_driver.specs.Causes.{Unchanged, BuildCauses, GoalsCauses, SourceCauses, EvalCauses, Causes, Went, NothingFailed}
use Rattle.command_reports.specs.Said.{SaidAll, IsReported}
use Rattle.xanadu_driver.specs.Correct.{Wrote, Cut, Translates}
use Rattle.xanadu_driver.specs.Fate.{fate, goals_of, proved_of}
use Rattle.command_reports.specs.Outside.{Held, Outside}
use Rattle.command_reports.specs.Report.{Report, Found, Answered, Listed, Ran, Short, report_of}
use Rattle.xanadu_driver.specs.Reported.{built, listed, ran, report}
use Rattle.xanadu_driver.specs.Source.{HasFate, IsRefused}
use Rattle.command_reports.specs.Words.{Meant, Build, Goals, Eval}
use Rattle.xanadu_driver.proofs.FateLaws.{fate_is, goals_are, goals_refused, proved_is, proved_refused}

-- ---- the cause

-- what holds at the target and elsewhere holds of all names
everywhere : (before after : Held) (target : List ℕ) → ((name : List ℕ) → name ≢ target → after.content name ≡ before.content name)
    → after.content target ≡ before.content target → Unchanged before after
everywhere before after target others same name = by_test (bytes_eq name target) refl
  where
    by_test : (b : Bool) → bytes_eq name target ≡ b → after.content name ≡ before.content name
    by_test true e =
        let is = (bytes_eq-Decides name target).0 e in ap after.content is ∙ same ∙ ap before.content (sym is)
    by_test false e = others name (λ is. let yes = (bytes_eq-Decides name target).1 is in cc (yes, e))

-- the cause of the answer of a build, by what the build did
pub build_causes : (source target : List ℕ) (before after : Held) (answer : Answer) → answer ≢ NoCommand
    → ((name : List ℕ) → name ≢ target → after.content name ≡ before.content name)
    → (answer ≡ ReadFailed → Rose (before.read_faults source) (after.read_faults source))
    → (answer ≡ WriteFailed → Rose (before.write_faults target) (after.write_faults target))
    → ((refusal : Refusal) → answer ≡ Refused refusal → (told : List ℕ) → before.content source ≡ Some told → IsRefused told refusal)
    → (Keeps answer → after.content target ≡ before.content target)
    → (answer ≡ WriteFailed → (told : List ℕ) → before.content source ≡ Some told → Cut told (before.content target) (after.content target))
    → ((counts : Counts) → answer ≡ Built counts → (told : List ℕ) → before.content source ≡ Some told
    → Wrote told counts (before.content target) (after.content target))
    → BuildCauses source target before after answer
build_causes source target before after NoCommand command others read write refused kept cut built = absurd (command refl)
build_causes source target before after ReadFailed command others read write refused kept cut built =
    record { rose = read refl; unchanged = everywhere before after target others (kept tt) }
build_causes source target before after (Refused refusal) command others read write refused kept cut built =
    record { refused = refused refusal refl; unchanged = everywhere before after target others (kept tt) }
build_causes source target before after Memory command others read write refused kept cut built = everywhere before after target others (kept tt)
build_causes source target before after WriteFailed command others read write refused kept cut built = record { rose = write refl; cut = cut refl }
build_causes source target before after (Built n) command others read write refused kept cut built = record { wrote = built n refl }

-- ---- the report

abbrev IsOf : Found → Type 0
IsOf (Answered ReadFailed) = ⊥
IsOf (Answered WriteFailed) = ⊥
IsOf (Answered Memory) = ⊥
IsOf (Short printed) = ⊥
IsOf _ = Unit {0}

same_report : (a b : Report) → ◌≡◌ {A = Option Report} (Some a) (Some b) → a ≡ b
same_report a b e = cc

-- where there is a report, the content is told
told_of : (of : List ℕ → Report) (content : Option (List ℕ)) (r : Report) → option_map of content ≡ Some r → (told : List ℕ) × (content ≡ Some told)
told_of of None r e = absurd cc
told_of of (Some told) r e = (told, refl)

abbrev of_build : List ℕ → Report
of_build bytes = report_of (built (fate bytes))

abbrev of_goals : List ℕ → Report
of_goals bytes = report_of (listed (goals_of bytes))

-- what is found of a told source is what is reported of it
found_report : (of : List ℕ → Report) (content : Option (List ℕ)) (found : Found) (r : Report) → option_map of content ≡ Some r
    → ((told : List ℕ) → content ≡ Some told → of told ≡ report_of found) → report_of found ≡ r
found_report of content found r is finds =
    let t = told_of of content r is in
    sym (finds t.0 t.1) ∙ same_report (of t.0) r (sym (ap (option_map of) t.1) ∙ is)

built_fate : (source : List ℕ) (counts : Counts) {text : List ℕ} → Translates source text counts → HasFate source (Ok counts)
built_fate source counts is = record { core = is.core; made = is.made; has = is.proved; counted = is.is.counted }

-- what depends on the words and the source alone is that of the report
build_report : (source target : List ℕ) (before after : Held) (answer : Answer) (r : Report) → BuildCauses source target before after answer
    → IsOf (Answered answer) → option_map of_build (before.content source) ≡ Some r → report_of (Answered answer) ≡ r
build_report source target before after NoCommand r cause of is = absurd cause
build_report source target before after (Refused refusal) r cause of is =
    found_report of_build (before.content source) (Answered (Refused refusal)) r is
    (λ told here. ap (λ (f : Result Counts SourceError). report_of (built f)) (fate_is told (Err (error.Refused refusal)) (cause.refused told here)))
build_report source target before after (Built counts) r cause of is =
    found_report of_build (before.content source) (Answered (Built counts)) r is
    (λ told here. ap (λ (f : Result Counts SourceError). report_of (built f)) (fate_is told (Ok counts) (built_fate told counts (cause.wrote told here).translates)))
build_report source target before after ReadFailed r cause of is = absurd of
build_report source target before after WriteFailed r cause of is = absurd of
build_report source target before after Memory r cause of is = absurd of

goals_report : (source : List ℕ) (before after : Held) (found : Found) (r : Report) → GoalsCauses source before after found → IsOf found
    → option_map of_goals (before.content source) ≡ Some r → report_of found ≡ r
goals_report source before after (Answered NoCommand) r cause of is = absurd cause
goals_report source before after (Answered (Refused refusal)) r cause of is =
    found_report of_goals (before.content source) (Answered (Refused refusal)) r is
    (λ told here. ap (λ (f : Result (List GoalAt) SourceError). report_of (listed f)) (goals_refused told refusal (cause.0.refused told here) cause.1))
goals_report source before after (Answered (Built n)) r cause of is = absurd cause
goals_report source before after (Answered ReadFailed) r cause of is = absurd of
goals_report source before after (Answered WriteFailed) r cause of is = absurd of
goals_report source before after (Answered Memory) r cause of is = absurd of
goals_report source before after (Listed goals) r cause of is =
    found_report of_goals (before.content source) (Listed goals) r is
    (λ told here. ap (λ (f : Result (List GoalAt) SourceError). report_of (listed f)) (goals_are told goals (cause.has told here)))
goals_report source before after (Ran printed end) r cause of is = absurd cause
goals_report source before after (Short printed) r cause of is = absurd of

abbrev of_run : Limits → List Arg → List ℕ → Report
of_run limits args bytes = report_of (ran limits args (proved_of bytes))

source_report : (source : List ℕ) (limits : Limits) (args : List Arg) (before after : Held) (answer : Answer) (r : Report) → SourceCauses source before after answer
    → IsOf (Answered answer) → option_map (of_run limits args) (before.content source) ≡ Some r → report_of (Answered answer) ≡ r
source_report source limits args before after NoCommand r cause of is = absurd cause
source_report source limits args before after (Refused refusal) r cause of is =
    found_report (of_run limits args) (before.content source) (Answered (Refused refusal)) r is
    (λ told here. ap (λ (core : Result plain.Program SourceError). report_of (ran limits args core)) (proved_refused told refusal (cause.refused told here)))
source_report source limits args before after (Built n) r cause of is = absurd cause
source_report source limits args before after ReadFailed r cause of is = absurd of
source_report source limits args before after WriteFailed r cause of is = absurd of
source_report source limits args before after Memory r cause of is = absurd of

eval_report : (source : List ℕ) (limits : Limits) (args : List Arg) (before after : Held) (found : Found) (r : Report) → EvalCauses source limits args before after found
    → IsOf found → option_map (of_run limits args) (before.content source) ≡ Some r → report_of found ≡ r
eval_report source limits args before after (Answered answer) r cause of is = source_report source limits args before after answer r cause of is
eval_report source limits args before after (Listed goals) r cause of is = absurd cause
eval_report source limits args before after (Ran printed end) r cause of is =
    found_report (of_run limits args) (before.content source) (Ran printed end) r is
    (λ told here.
    let run = cause.has told here in
    ap (λ (core : Result plain.Program SourceError). report_of (ran limits args core)) (proved_is told run.core run.made run.has) ∙ ap report_of run.finds)
eval_report source limits args before after (Short printed) r cause of is = absurd of

caused_report : (meant : Option Meant) (before after : Held) (found : Found) (r : Report) → Causes meant before after found → IsOf found
    → report meant before.content ≡ Some r → report_of found ≡ r
caused_report None before after (Answered NoCommand) r cause of is = same_report _ r is
caused_report None before after (Answered ReadFailed) r cause of is = absurd cause
caused_report None before after (Answered WriteFailed) r cause of is = absurd cause
caused_report None before after (Answered Memory) r cause of is = absurd of
caused_report None before after (Answered (Refused refusal)) r cause of is = absurd cause
caused_report None before after (Answered (Built n)) r cause of is = absurd cause
caused_report None before after (Listed goals) r cause of is = absurd cause
caused_report None before after (Ran printed end) r cause of is = absurd cause
caused_report None before after (Short printed) r cause of is = absurd of
caused_report (Some (Build source target)) before after (Answered answer) r cause of is = build_report source target before after answer r cause of is
caused_report (Some (Build source target)) before after (Listed goals) r cause of is = absurd cause
caused_report (Some (Build source target)) before after (Ran printed end) r cause of is = absurd cause
caused_report (Some (Build source target)) before after (Short printed) r cause of is = absurd of
caused_report (Some (Goals source)) before after found r cause of is = goals_report source before after found r cause of is
caused_report (Some (Eval source limits args)) before after found r cause of is = eval_report source limits args before after found r cause of is

abbrev all_reported : (meant : Option Meant) (before after : Outside) (found : Found) (status : ℕ) (r : Report) → Causes meant before.files after.files found
    → IsOf found → report meant before.files.content ≡ Some r → SaidAll (report_of found) status before.faults after.faults before.written after.written
    → IsReported r status before.written after.written
all_reported meant before after found status r cause of is all =
    subst (λ (x : Report). IsReported x status before.written after.written) (caused_report meant before.files after.files found r cause of is)
    (record { status_is = all.status_is; said = all.said })

-- but at the statuses 3, 4 and 6
reported_by : (meant : Option Meant) (before after : Outside) (found : Found) (status : ℕ) (r : Report) → Causes meant before.files after.files found
    → report meant before.files.content ≡ Some r → SaidAll (report_of found) status before.faults after.faults before.written after.written
    → status ≢ 3 → status ≢ 4 → status ≢ 6 → IsReported r status before.written after.written
reported_by meant before after (Answered ReadFailed) status r cause is all three four six = absurd (three all.status_is)
reported_by meant before after (Answered WriteFailed) status r cause is all three four six = absurd (four all.status_is)
reported_by meant before after (Answered Memory) status r cause is all three four six = absurd (six all.status_is)
reported_by meant before after (Answered NoCommand) status r cause is all three four six =
    all_reported meant before after (Answered NoCommand) status r cause tt is all
reported_by meant before after (Answered (Refused refusal)) status r cause is all three four six =
    all_reported meant before after (Answered (Refused refusal)) status r cause tt is all
reported_by meant before after (Answered (Built n)) status r cause is all three four six =
    all_reported meant before after (Answered (Built n)) status r cause tt is all
reported_by meant before after (Listed goals) status r cause is all three four six = all_reported meant before after (Listed goals) status r cause tt is all
reported_by meant before after (Ran printed end) status r cause is all three four six = all_reported meant before after (Ran printed end) status r cause tt is all
reported_by meant before after (Short printed) status r cause is all three four six = absurd (six all.status_is)

pub went_reported : (meant : Option Meant) (before after : Outside) (status : ℕ) → Went meant before after status → (r : Report)
    → report meant before.files.content ≡ Some r → status ≢ 3 → status ≢ 4 → status ≢ 6 → IsReported r status before.written after.written
went_reported meant before after status went r is three four six =
    ⊎_elim (λ all. reported_by meant before after went.found status r went.cause is all three four six) (λ part. absurd (four part.status_is)) went.said

-- where nothing failed
completed_by : (meant : Option Meant) (before after : Outside) (found : Found) (status : ℕ) (r : Report) → Causes meant before.files after.files found
    → report meant before.files.content ≡ Some r → SaidAll (report_of found) status before.faults after.faults before.written after.written
    → NothingFailed meant before after → (status ≡ r.status) ⊎ (status ≡ 6)
completed_by None before after (Answered ReadFailed) status r cause is all nothing = absurd cause
completed_by (Some (Build source target)) before after (Answered ReadFailed) status r cause is all nothing = absurd (nothing.reads source refl cause.rose)
completed_by (Some (Goals source)) before after (Answered ReadFailed) status r cause is all nothing = absurd (nothing.reads source refl cause.rose)
completed_by (Some (Eval source limits args)) before after (Answered ReadFailed) status r cause is all nothing = absurd (nothing.reads source refl cause.rose)
completed_by None before after (Answered WriteFailed) status r cause is all nothing = absurd cause
completed_by (Some (Build source target)) before after (Answered WriteFailed) status r cause is all nothing = absurd (nothing.writes target refl cause.rose)
completed_by (Some (Goals source)) before after (Answered WriteFailed) status r cause is all nothing = absurd cause
completed_by (Some (Eval source limits args)) before after (Answered WriteFailed) status r cause is all nothing = absurd cause
completed_by meant before after (Answered Memory) status r cause is all nothing = inr all.status_is
completed_by meant before after (Answered NoCommand) status r cause is all nothing =
    inl ((all_reported meant before after (Answered NoCommand) status r cause tt is all).status_is)
completed_by meant before after (Answered (Refused refusal)) status r cause is all nothing =
    inl ((all_reported meant before after (Answered (Refused refusal)) status r cause tt is all).status_is)
completed_by meant before after (Answered (Built n)) status r cause is all nothing =
    inl ((all_reported meant before after (Answered (Built n)) status r cause tt is all).status_is)
completed_by meant before after (Listed goals) status r cause is all nothing =
    inl ((all_reported meant before after (Listed goals) status r cause tt is all).status_is)
completed_by meant before after (Ran printed end) status r cause is all nothing =
    inl ((all_reported meant before after (Ran printed end) status r cause tt is all).status_is)
completed_by meant before after (Short printed) status r cause is all nothing = inr all.status_is

pub went_complete : (meant : Option Meant) (before after : Outside) (status : ℕ) → Went meant before after status → (r : Report)
    → report meant before.files.content ≡ Some r → NothingFailed meant before after → (status ≡ r.status) ⊎ (status ≡ 6)
went_complete meant before after status went r is nothing =
    ⊎_elim (λ all. completed_by meant before after went.found status r went.cause is all nothing) (λ part. absurd (nothing.puts part.rose)) went.said

-- ---- commands

pub caused_none : (meant : Option Meant) → meant ≡ None → (before : Held) → Causes meant before before (Answered NoCommand)
caused_none meant is before = subst (λ m. Causes m before before (Answered NoCommand)) (sym is) (λ name. refl)

pub caused_build : (meant : Option Meant) (source target : List ℕ) → meant ≡ Some (Build source target) → (before after : Held) (answer : Answer)
    → BuildCauses source target before after answer → Causes meant before after (Answered answer)
caused_build meant source target is before after answer cause = subst (λ m. Causes m before after (Answered answer)) (sym is) cause

pub caused_goals : (meant : Option Meant) (source : List ℕ) → meant ≡ Some (Goals source) → (before after : Held) (found : Found)
    → GoalsCauses source before after found → Causes meant before after found
caused_goals meant source is before after found cause = subst (λ m. Causes m before after found) (sym is) cause

-- before the command is known
pub caused_memory : (meant : Option Meant) (before : Held) → Causes meant before before (Answered Memory)
caused_memory None before = λ name. refl
caused_memory (Some (Build source target)) before = λ name. refl
caused_memory (Some (Goals source)) before = λ name. refl
caused_memory (Some (Eval source limits args)) before = λ name. refl

-- of the run of a core that the source has
pub run_causes : (source : List ℕ) (limits : Limits) (args : List Arg) (before after : Held) (core : plain.Program) (found : Found)
    → ProvesTold (before.content source) core → Unchanged before after → FindsRun core limits args found → EvalCauses source limits args before after found
run_causes source limits args before after core (Answered answer) proves same finds = absurd finds
run_causes source limits args before after core (Listed goals) proves same finds = absurd finds
run_causes source limits args before after core (Ran printed end) proves same finds = record {
  has = λ told here. (let p = proves told here in record { core = core; made = p.made; has = p.proved; finds = finds });
  unchanged = same;
}
run_causes source limits args before after core (Short printed) proves same finds = record {
  has = λ told here. (let p = proves told here in record { core = core; made = p.made; has = p.proved; finds = finds });
  unchanged = same;
}

pub went_as : (meant : Option Meant) (command : Meant) → meant ≡ Some command → (before after : Outside) (status : ℕ) → Went (Some command) before after status
    → Went meant before after status
went_as meant command is before after status went = subst (λ m. Went m before after status) (sym is) went
