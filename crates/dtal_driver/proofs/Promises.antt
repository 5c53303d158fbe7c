-- What each status of a text promises, from how its report comes.
use Rattle.std.proofs.Common.{◌≡◌, ◌≢◌, ◌∙◌, ◌⊎◌, ℕ, List, Option, Some, Ok, Err, sym, ap, subst, arith}
use Rattle.std.specs.Io.KnownBytes.{append_known}
use Rattle.xan_io.specs.declared.arg.Arg.{Arg}
use Rattle.xan_io.specs.Faults.{Rose}
use Rattle.state_types.specs.declared.state.StateType.{StateType}
use Rattle.dtal_code.specs.declared.program.DtalProgram.{DtalProgram}
use Rattle.dtal_code.specs.declared.refusal.Where.{Where}
use Rattle.dtal_code.specs.declared.refusal.Rule.{Rule}
use Rattle.dtal_code.specs.Acceptance.{Accepted}
use Rattle.dtal_code.specs.Machine.{State}
use Rattle.dtal_code.specs.ObjectCode.{code_of}
use Rattle.dtal_code.specs.Refusing.{verified}
use Rattle.dtal_code.specs.Runs.{program_entry, outcome_from}
use Rattle.dtal_code.specs.Safety.{RunsSafely}
use Rattle.dtal_code.proofs.VerifiedPrograms.{verified_is_accepted, accepted_is_verified}
use Rattle.dtal_driver.specs.declared.answer.Answer.TheVariants as answer
use Rattle.run_options.specs.declared.options.Limits.{Limits}
use Rattle.dtal_driver.specs.declared.run.End.{End}
use Rattle.dtal_driver.specs.declared.run.End.TheVariants as ends
use Rattle.dtal_driver.specs.Answers.{status_of}
use Rattle.dtal_driver.specs.Causes.{IsText, SaidAll, Went}
use Rattle.dtal_driver.specs.Promises.{IsEndOfRun, OfText, TooLongFor, NoProgramAt, RefusedAt, FaultyAt, RanTo, Ran, AcceptedText}
use Rattle.dtal_driver.specs.Report.{Report, plain, report_text, how_of, answer_of, program_report, OfProgram}
use Rattle.dtal_driver.specs.VerifiedTexts.{accepted_answer}
use Rattle.dtal_driver.specs.Words.{Meant, Verify, Run, text_of}
use Rattle.dtal_driver.proofs.Reports.{OneProgram, Way, TooLong, NoProgram, Denies, Accepts, IsFaulty, Runs, way_of}
use Rattle.dtal_driver.proofs.Statuses.{IsApart, all_of, of_text, told_report, clause-complete, fault-twelve, end-status, end-no_store, end-overflow, end-spent, other_status}

-- accepted programs run safely
abbrev pub RunSafely : Type 0
RunSafely = (program : DtalProgram) (args : List Arg) (heap depth steps : ℕ) → Accepted program → RunsSafely (code_of program) (program_entry program args heap depth) steps

-- ---- a report of a text

verify_no_run : (name other : List ℕ) (limits : Limits) (args : List Arg) → Verify name ≡ Run other limits args → ⊥
verify_no_run name other limits args e = cc

module _ (command : Meant) (bytes : List ℕ) (report : Report) where
  own : (said : Report) → report ≡ said → status_of report.answer ≡ status_of said.answer
  own said is = ap (λ (r : Report). status_of r.answer) is

  -- the report of a run has the status of an end
  not_ended : (steps : ℕ) (end : End) (number : ℕ) → status_of report.answer ≡ status_of (answer_of steps end) → status_of report.answer ≡ number
      → number ≢ 0 → number ≢ 13 → number ≢ 14 → number ≢ 15 → ⊥
  not_ended steps end number is e = other_status number (subst IsEndOfRun (sym is ∙ e) (end-status steps end))

  accepted_of : (program : DtalProgram) (states : List (List StateType)) → IsText bytes program → verified program ≡ Ok states → Accepted program
  accepted_of program states text walked = (verified_is_accepted program states text.spells.grammar walked).accepted

  module _ (out out' : Option (List ℕ)) (said : out' ≡ append_known out (report_text report)) where
    says : (r : Report) → report ≡ r → out' ≡ append_known out (report_text r)
    says r is = said ∙ ap (λ x. append_known out (report_text x)) is

    too_long : Way command bytes report → status_of report.answer ≡ 5 → TooLongFor bytes out out'
    too_long (TooLong long is) e = record { long = long; said = says _ is }
    too_long (NoProgram at none is) e = absurd (omega (arith, own _ is, e))
    too_long (Denies at rule refused is) e = absurd (omega (arith, own _ is, e))
    too_long (Accepts name verifies program text states walked is) e = absurd (omega (arith, own _ is, e))
    too_long (IsFaulty name limits args runs program text states walked fault found is) e = absurd (omega (arith, own _ is, e, fault-twelve fault))
    too_long (Runs name limits args runs program text states walked entry end begins how is) e =
        absurd (not_ended limits.units end 5 (own _ is) e (λ f. omega (arith, f)) (λ f. omega (arith, f)) (λ f. omega (arith, f)) (λ f. omega (arith, f)))

    no_program : Way command bytes report → status_of report.answer ≡ 7 → NoProgramAt bytes out out'
    no_program (TooLong long is) e = absurd (omega (arith, own _ is, e))
    no_program (NoProgram at none is) e = record { at = at; faulty = none; said = says _ is }
    no_program (Denies at rule refused is) e = absurd (omega (arith, own _ is, e))
    no_program (Accepts name verifies program text states walked is) e = absurd (omega (arith, own _ is, e))
    no_program (IsFaulty name limits args runs program text states walked fault found is) e = absurd (omega (arith, own _ is, e, fault-twelve fault))
    no_program (Runs name limits args runs program text states walked entry end begins how is) e =
        absurd (not_ended limits.units end 7 (own _ is) e (λ f. omega (arith, f)) (λ f. omega (arith, f)) (λ f. omega (arith, f)) (λ f. omega (arith, f)))

    refused_at : Way command bytes report → status_of report.answer ≡ 11 → RefusedAt bytes out out'
    refused_at (TooLong long is) e = absurd (omega (arith, own _ is, e))
    refused_at (NoProgram at none is) e = absurd (omega (arith, own _ is, e))
    refused_at (Denies at rule refused is) e = record { at = at; rule = rule; refused = refused; said = says _ is }
    refused_at (Accepts name verifies program text states walked is) e = absurd (omega (arith, own _ is, e))
    refused_at (IsFaulty name limits args runs program text states walked fault found is) e = absurd (omega (arith, own _ is, e, fault-twelve fault))
    refused_at (Runs name limits args runs program text states walked entry end begins how is) e =
        absurd (not_ended limits.units end 11 (own _ is) e (λ f. omega (arith, f)) (λ f. omega (arith, f)) (λ f. omega (arith, f)) (λ f. omega (arith, f)))

    faulty_at : Way command bytes report → status_of report.answer ≡ 12 → FaultyAt command bytes out out'
    faulty_at (TooLong long is) e = absurd (omega (arith, own _ is, e))
    faulty_at (NoProgram at none is) e = absurd (omega (arith, own _ is, e))
    faulty_at (Denies at rule refused is) e = absurd (omega (arith, own _ is, e))
    faulty_at (Accepts name verifies program text states walked is) e = absurd (omega (arith, own _ is, e))
    faulty_at (IsFaulty name limits args runs program text states walked fault found is) e = record {
      name = name;
      limits = limits;
      args = args;
      is = runs;
      program = program;
      text = text;
      accepted = accepted_of program states text walked;
      fault = fault;
      found = found;
      said = says _ is;
    }
    faulty_at (Runs name limits args runs program text states walked entry end begins how is) e =
        absurd (not_ended limits.units end 12 (own _ is) e (λ f. omega (arith, f)) (λ f. omega (arith, f)) (λ f. omega (arith, f)) (λ f. omega (arith, f)))

    module _ (safely : RunSafely) where
      ran_to : (name : List ℕ) (limits : Limits) (args : List Arg) (program : DtalProgram) (states : List (List StateType)) (entry : Option State) (end : End)
          → command ≡ Run name limits args → IsText bytes program → verified program ≡ Ok states → program_entry program args limits.heap limits.depth ≡ Ok entry
          → (outcome_from (code_of program) entry limits.units).how ≡ how_of end
          → report ≡ record { printed = (outcome_from (code_of program) entry limits.units).printed; answer = answer_of limits.units end } → RanTo command bytes end out out'
      ran_to name limits args program states entry end runs text walked begins how is = record {
        name = name;
        limits = limits;
        args = args;
        is = runs;
        program = program;
        text = text;
        accepted = accepted_of program states text walked;
        entry = entry;
        begins = begins;
        ends = how;
        safe = λ steps. safely program args limits.heap limits.depth steps (accepted_of program states text walked);
        said = says _ is;
      }

      without_store : Way command bytes report → status_of report.answer ≡ 13 → RanTo command bytes ends.NoStore out out'
      without_store (TooLong long is) e = absurd (omega (arith, own _ is, e))
      without_store (NoProgram at none is) e = absurd (omega (arith, own _ is, e))
      without_store (Denies at rule refused is) e = absurd (omega (arith, own _ is, e))
      without_store (Accepts name verifies program text states walked is) e = absurd (omega (arith, own _ is, e))
      without_store (IsFaulty name limits args runs program text states walked fault found is) e = absurd (omega (arith, own _ is, e, fault-twelve fault))
      without_store (Runs name limits args runs program text states walked entry end begins how is) e =
          subst (λ x. RanTo command bytes x out out') (end-no_store limits.units end (sym (own _ is) ∙ e)) (ran_to name limits args program states entry end runs text walked begins how is)

      with_overflow : Way command bytes report → status_of report.answer ≡ 14 → RanTo command bytes ends.Overflow out out'
      with_overflow (TooLong long is) e = absurd (omega (arith, own _ is, e))
      with_overflow (NoProgram at none is) e = absurd (omega (arith, own _ is, e))
      with_overflow (Denies at rule refused is) e = absurd (omega (arith, own _ is, e))
      with_overflow (Accepts name verifies program text states walked is) e = absurd (omega (arith, own _ is, e))
      with_overflow (IsFaulty name limits args runs program text states walked fault found is) e = absurd (omega (arith, own _ is, e, fault-twelve fault))
      with_overflow (Runs name limits args runs program text states walked entry end begins how is) e =
          subst (λ x. RanTo command bytes x out out') (end-overflow limits.units end (sym (own _ is) ∙ e)) (ran_to name limits args program states entry end runs text walked begins how is)

      steps_spent : Way command bytes report → status_of report.answer ≡ 15 → RanTo command bytes ends.Spent out out'
      steps_spent (TooLong long is) e = absurd (omega (arith, own _ is, e))
      steps_spent (NoProgram at none is) e = absurd (omega (arith, own _ is, e))
      steps_spent (Denies at rule refused is) e = absurd (omega (arith, own _ is, e))
      steps_spent (Accepts name verifies program text states walked is) e = absurd (omega (arith, own _ is, e))
      steps_spent (IsFaulty name limits args runs program text states walked fault found is) e = absurd (omega (arith, own _ is, e, fault-twelve fault))
      steps_spent (Runs name limits args runs program text states walked entry end begins how is) e =
          subst (λ x. RanTo command bytes x out out') (end-spent limits.units end (sym (own _ is) ∙ e)) (ran_to name limits args program states entry end runs text walked begins how is)

      -- a report with the status of an end is that of a run
      no_end : (number : ℕ) (Whole : Type 0) → IsEndOfRun (status_of report.answer) → status_of report.answer ≡ number → number ≢ 0 → number ≢ 13 → number ≢ 14 → number ≢ 15 → Whole
      no_end number Whole ended is a b c d = absurd (other_status number (subst IsEndOfRun is ended) a b c d)

      ran : (name : List ℕ) (limits : Limits) (args : List Arg) → command ≡ Run name limits args → Way command bytes report → IsEndOfRun (status_of report.answer)
          → Ran command bytes (status_of report.answer) out out'
      unfolding ran_to
      ran name limits args runs' (TooLong long is) e = no_end 5 _ e (own _ is) (λ f. omega (arith, f)) (λ f. omega (arith, f)) (λ f. omega (arith, f)) (λ f. omega (arith, f))
      ran name limits args runs' (NoProgram at none is) e = no_end 7 _ e (own _ is) (λ f. omega (arith, f)) (λ f. omega (arith, f)) (λ f. omega (arith, f)) (λ f. omega (arith, f))
      ran name limits args runs' (Denies at rule refused is) e = no_end 11 _ e (own _ is) (λ f. omega (arith, f)) (λ f. omega (arith, f)) (λ f. omega (arith, f)) (λ f. omega (arith, f))
      ran name limits args runs' (Accepts other verifies program text states walked is) e = absurd (verify_no_run other name limits args (sym verifies ∙ runs'))
      ran name limits args runs' (IsFaulty other limits' others runs program text states walked fault found is) e =
          no_end 12 _ e (own _ is ∙ fault-twelve fault) (λ f. omega (arith, f)) (λ f. omega (arith, f)) (λ f. omega (arith, f)) (λ f. omega (arith, f))
      ran name limits args runs' (Runs other limits' others runs program text states walked entry end begins how is) e =
          record { end = end; ran = ran_to other limits' others program states entry end runs text walked begins how is; status_is = own _ is }

      accepted_text : (name : List ℕ) → command ≡ Verify name → Way command bytes report → status_of report.answer ≡ 0 → AcceptedText bytes out out'
      accepted_text name verifies' (TooLong long is) e = absurd (omega (arith, own _ is, e))
      accepted_text name verifies' (NoProgram at none is) e = absurd (omega (arith, own _ is, e))
      accepted_text name verifies' (Denies at rule refused is) e = absurd (omega (arith, own _ is, e))
      accepted_text name verifies' (Accepts other verifies program text states walked is) e = record {
        program = program;
        text = text;
        accepted = accepted_of program states text walked;
        safe = λ args heap depth steps. safely program args heap depth steps (accepted_of program states text walked);
        said = says _ is;
      }
      accepted_text name verifies' (IsFaulty other limits args runs program text states walked fault found is) e = absurd (verify_no_run name other limits args (sym verifies' ∙ runs))
      accepted_text name verifies' (Runs other limits args runs program text states walked entry end begins how is) e = absurd (verify_no_run name other limits args (sym verifies' ∙ runs))

-- ---- what went

module _ (meant : Option Meant) (content : List ℕ → Option (List ℕ)) (reads reads' : List ℕ → ℕ) (status faults faults' : ℕ) (out out' : Option (List ℕ))
    (went : Went meant content reads reads' status faults faults' out out') where
  -- the report has a status of its own
  module _ (number : ℕ) (apart : IsApart number) (other : number ≢ 4) (is : status ≡ number) where
    not_four' : status ≢ 4
    not_four' four = other (sym is ∙ four)

    all : SaidAll went.report status faults faults' out out'
    all = all_of meant content reads reads' status faults faults' out out' went not_four'

    own_status : status_of went.report.answer ≡ number
    own_status = sym all.status_is ∙ is

    by_way : (Holds : Meant → List ℕ → Type 0) → ((command : Meant) (bytes : List ℕ) → Way command bytes went.report → Holds command bytes) → OfText meant content Holds
    by_way Holds from =
        of_text meant content reads reads' status faults faults' out out' went (subst IsApart (sym is) apart) not_four' Holds
        (λ command bytes reports. from command bytes (way_of command bytes went.report reports))

  module _ (number : ℕ) (two : number ≢ 2) (three : number ≢ 3) (six : number ≢ 6) where
    stands_apart : IsApart number
    stands_apart = record { two = two; three = three; six = six }

  pub clause-too_long : status ≡ 5 → OfText meant content (λ command bytes. TooLongFor bytes out out')
  clause-too_long is =
      let apart = stands_apart 5 (λ e. omega (arith, e)) (λ e. omega (arith, e)) (λ e. omega (arith, e)) in
      let not : 5 ≢ 4 = λ e. omega (arith, e) in
      by_way 5 apart not is _ (λ command bytes way. too_long command bytes went.report out out' ((all 5 apart not is).said) way (own_status 5 apart not is))

  pub clause-no_program : status ≡ 7 → OfText meant content (λ command bytes. NoProgramAt bytes out out')
  clause-no_program is =
      let apart = stands_apart 7 (λ e. omega (arith, e)) (λ e. omega (arith, e)) (λ e. omega (arith, e)) in
      let not : 7 ≢ 4 = λ e. omega (arith, e) in
      by_way 7 apart not is _ (λ command bytes way. no_program command bytes went.report out out' ((all 7 apart not is).said) way (own_status 7 apart not is))

  pub clause-refused : status ≡ 11 → OfText meant content (λ command bytes. RefusedAt bytes out out')
  clause-refused is =
      let apart = stands_apart 11 (λ e. omega (arith, e)) (λ e. omega (arith, e)) (λ e. omega (arith, e)) in
      let not : 11 ≢ 4 = λ e. omega (arith, e) in
      by_way 11 apart not is _ (λ command bytes way. refused_at command bytes went.report out out' ((all 11 apart not is).said) way (own_status 11 apart not is))

  pub clause-faults : status ≡ 12 → OfText meant content (λ command bytes. FaultyAt command bytes out out')
  clause-faults is =
      let apart = stands_apart 12 (λ e. omega (arith, e)) (λ e. omega (arith, e)) (λ e. omega (arith, e)) in
      let not : 12 ≢ 4 = λ e. omega (arith, e) in
      by_way 12 apart not is _ (λ command bytes way. faulty_at command bytes went.report out out' ((all 12 apart not is).said) way (own_status 12 apart not is))

  pub clause-no_store : RunSafely → status ≡ 13 → OfText meant content (λ command bytes. RanTo command bytes ends.NoStore out out')
  clause-no_store safely is =
      let apart = stands_apart 13 (λ e. omega (arith, e)) (λ e. omega (arith, e)) (λ e. omega (arith, e)) in
      let not : 13 ≢ 4 = λ e. omega (arith, e) in
      by_way 13 apart not is _ (λ command bytes way. without_store command bytes went.report out out' ((all 13 apart not is).said) safely way (own_status 13 apart not is))

  pub clause-overflow : RunSafely → status ≡ 14 → OfText meant content (λ command bytes. RanTo command bytes ends.Overflow out out')
  clause-overflow safely is =
      let apart = stands_apart 14 (λ e. omega (arith, e)) (λ e. omega (arith, e)) (λ e. omega (arith, e)) in
      let not : 14 ≢ 4 = λ e. omega (arith, e) in
      by_way 14 apart not is _ (λ command bytes way. with_overflow command bytes went.report out out' ((all 14 apart not is).said) safely way (own_status 14 apart not is))

  pub clause-steps_ended : RunSafely → status ≡ 15 → OfText meant content (λ command bytes. RanTo command bytes ends.Spent out out')
  clause-steps_ended safely is =
      let apart = stands_apart 15 (λ e. omega (arith, e)) (λ e. omega (arith, e)) (λ e. omega (arith, e)) in
      let not : 15 ≢ 4 = λ e. omega (arith, e) in
      by_way 15 apart not is _ (λ command bytes way. steps_spent command bytes went.report out out' ((all 15 apart not is).said) safely way (own_status 15 apart not is))

  -- ---- a command whose text is told

  module _ (command : Meant) (bytes : List ℕ) (means : meant ≡ Some command) (here : content (text_of command) ≡ Some bytes) where
    module _ (three : status ≢ 3) (four : status ≢ 4) (six : status ≢ 6) where
      said_all : SaidAll went.report status faults faults' out out'
      said_all = all_of meant content reads reads' status faults faults' out out' went four

      way : Way command bytes went.report
      way = way_of command bytes went.report (told_report meant content reads reads' status faults faults' out out' went command bytes means here three four six)

      ran_of : RunSafely → (name : List ℕ) (limits : Limits) (args : List Arg) → command ≡ Run name limits args → IsEndOfRun status → Ran command bytes status out out'
      ran_of safely name limits args runs ended =
          subst (λ s. Ran command bytes s out out') (sym said_all.status_is)
          (ran command bytes went.report out out' said_all.said safely name limits args runs way (subst IsEndOfRun said_all.status_is ended))

      accepted_of' : RunSafely → (name : List ℕ) → command ≡ Verify name → status ≡ 0 → AcceptedText bytes out out'
      accepted_of' safely name verifies zero = accepted_text command bytes went.report out out' said_all.said safely name verifies way (sym said_all.status_is ∙ zero)

    pub clause-ran : RunSafely → (name : List ℕ) (limits : Limits) (args : List Arg) → command ≡ Run name limits args → IsEndOfRun status → Ran command bytes status out out'
    clause-ran safely name limits args runs ended =
        let apart : (number : ℕ) → number ≢ 0 → number ≢ 13 → number ≢ 14 → number ≢ 15 → status ≢ number =
        λ number a b c d e. other_status number (subst IsEndOfRun e ended) a b c d in
        ran_of (apart 3 (λ e. omega (arith, e)) (λ e. omega (arith, e)) (λ e. omega (arith, e)) (λ e. omega (arith, e))) (apart 4 (λ e. omega (arith, e)) (λ e. omega (arith, e)) (λ e. omega (arith, e)) (λ e. omega (arith, e))) (apart 6 (λ e. omega (arith, e)) (λ e. omega (arith, e)) (λ e. omega (arith, e)) (λ e. omega (arith, e))) safely name limits args runs ended

    pub clause-accepted : RunSafely → (name : List ℕ) → command ≡ Verify name → status ≡ 0 → AcceptedText bytes out out'
    clause-accepted safely name verifies zero =
        let apart : (number : ℕ) → number ≢ 0 → status ≢ number = λ number not_zero e. not_zero (sym e ∙ zero) in
        accepted_of' (apart 3 (λ e. omega (arith, e))) (apart 4 (λ e. omega (arith, e))) (apart 6 (λ e. omega (arith, e))) safely name verifies zero

  -- ---- both verdicts

  module _ (one : OneProgram) (name bytes : List ℕ) (program : DtalProgram) (means : meant ≡ Some (Verify name)) (here : content name ≡ Some bytes)
      (text : IsText bytes program) where
    of_verdict : (report : Report) → program_report (Verify name) program (verified program) ≡ Some report → (Rose (reads name) (reads' name) → ⊥) → (Rose faults faults' → ⊥)
        → (status ≡ status_of report.answer) ⊎ (status ≡ 6)
    of_verdict report is no_read no_put =
        clause-complete meant content reads reads' status faults faults' out out' went (Verify name) bytes means here one report
        (OfProgram text.short program text.spells is) no_read no_put

    pub clause-accepts : Accepted program → (Rose (reads name) (reads' name) → ⊥) → (Rose faults faults' → ⊥) → (status ≡ 0) ⊎ (status ≡ 6)
    clause-accepts accepted no_read no_put =
        of_verdict (plain (accepted_answer program)) (ap (program_report (Verify name) program) (accepted_is_verified program accepted)) no_read no_put

    pub clause-refuses : (at : Where) (rule : Rule) → verified program ≡ Err (record { at = at; rule = rule }) → (Rose (reads name) (reads' name) → ⊥) → (Rose faults faults' → ⊥)
        → (status ≡ 11) ⊎ (status ≡ 6)
    clause-refuses at rule refused no_read no_put =
        of_verdict (plain (answer.Refused at rule)) (ap (program_report (Verify name) program) refused) no_read no_put
