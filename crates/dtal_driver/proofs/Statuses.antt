-- From how a command went to what its status promises.
use Rattle.std.proofs.Common.{◌≡◌, ◌≢◌, ◌∙◌, ◌⊎◌, inl, inr, ⊎_elim, ℕ, ◌<◌, List, Option, None, Some, refl, sym, ap, subst, arith}
use Rattle.std.proofs.lemmas.Option.{none-some}
use Rattle.std.specs.Io.KnownBytes.{append_known}
use Rattle.xan_io.specs.Entry.{EntryFault}
use Rattle.xan_io.specs.Entry as fault
use Rattle.xan_io.specs.Faults.{Rose}
use Rattle.dtal_driver.specs.declared.answer.Answer.{Answer}
use Rattle.dtal_driver.specs.declared.answer.Answer.TheVariants as answer
use Rattle.dtal_driver.specs.declared.run.End.{End}
use Rattle.dtal_driver.specs.declared.run.End.TheVariants as ends
use Rattle.dtal_driver.specs.Answers.{status_of, line_of}
use Rattle.dtal_driver.specs.Causes.{IsOfText, TextRose, Tells, Cause, NoCommand, ReadFailed, Memory, Told, SaidAll, SaidPart, Went}
use Rattle.dtal_driver.specs.Promises.{IsStatus, IsEndOfRun, Returned, NoStore, Overflow, Spent, OfText, Said, SaidInPart}
use Rattle.dtal_driver.specs.Report.{Report, plain, report_text, answer_of, fault_answer, Reports}
use Rattle.dtal_driver.specs.Words.{Meant, text_of}
use Rattle.dtal_driver.proofs.Reports.{OneProgram, one_report}

-- ---- statuses of answers

status_of-is : (said : Answer) → IsStatus (status_of said)
status_of-is answer.NoCommand = refl
status_of-is answer.ReadFailed = refl
status_of-is answer.Memory = refl
status_of-is (answer.Refused at rule) = refl
status_of-is (answer.Accepted f n) = refl
status_of-is answer.TooLong = refl
status_of-is (answer.NoProgram at) = refl
status_of-is answer.ArgCount = refl
status_of-is (answer.ArgKind n) = refl
status_of-is (answer.ArgIndex n) = refl
status_of-is (answer.EntryRow n) = refl
status_of-is (answer.Returned word) = refl
status_of-is answer.NoStore = refl
status_of-is answer.Overflow = refl
status_of-is (answer.StepsEnded n) = refl

-- no answer has the status of a fault of the output
not_four : (said : Answer) → status_of said ≡ 4 → ⊥
not_four answer.NoCommand e = omega (arith, e)
not_four answer.ReadFailed e = omega (arith, e)
not_four answer.Memory e = omega (arith, e)
not_four (answer.Refused at rule) e = omega (arith, e)
not_four (answer.Accepted f n) e = omega (arith, e)
not_four answer.TooLong e = omega (arith, e)
not_four (answer.NoProgram at) e = omega (arith, e)
not_four answer.ArgCount e = omega (arith, e)
not_four (answer.ArgKind n) e = omega (arith, e)
not_four (answer.ArgIndex n) e = omega (arith, e)
not_four (answer.EntryRow n) e = omega (arith, e)
not_four (answer.Returned word) e = omega (arith, e)
not_four answer.NoStore e = omega (arith, e)
not_four answer.Overflow e = omega (arith, e)
not_four (answer.StepsEnded n) e = omega (arith, e)

-- an answer of a text has another status than those that are not
pub record IsApart (status : ℕ) : Type 0 where
  pub two : status ≡ 2 → ⊥
  pub three : status ≡ 3 → ⊥
  pub six : status ≡ 6 → ⊥

of_text-apart : (said : Answer) → IsOfText said → IsApart (status_of said)
of_text-apart answer.NoCommand is = absurd is
of_text-apart answer.ReadFailed is = absurd is
of_text-apart answer.Memory is = absurd is
of_text-apart (answer.Refused at rule) is = record { two = λ e. omega (arith, e); three = λ e. omega (arith, e); six = λ e. omega (arith, e) }
of_text-apart (answer.Accepted f n) is = record { two = λ e. omega (arith, e); three = λ e. omega (arith, e); six = λ e. omega (arith, e) }
of_text-apart answer.TooLong is = record { two = λ e. omega (arith, e); three = λ e. omega (arith, e); six = λ e. omega (arith, e) }
of_text-apart (answer.NoProgram at) is = record { two = λ e. omega (arith, e); three = λ e. omega (arith, e); six = λ e. omega (arith, e) }
of_text-apart answer.ArgCount is = record { two = λ e. omega (arith, e); three = λ e. omega (arith, e); six = λ e. omega (arith, e) }
of_text-apart (answer.ArgKind n) is = record { two = λ e. omega (arith, e); three = λ e. omega (arith, e); six = λ e. omega (arith, e) }
of_text-apart (answer.ArgIndex n) is = record { two = λ e. omega (arith, e); three = λ e. omega (arith, e); six = λ e. omega (arith, e) }
of_text-apart (answer.EntryRow n) is = record { two = λ e. omega (arith, e); three = λ e. omega (arith, e); six = λ e. omega (arith, e) }
of_text-apart (answer.Returned word) is = record { two = λ e. omega (arith, e); three = λ e. omega (arith, e); six = λ e. omega (arith, e) }
of_text-apart answer.NoStore is = record { two = λ e. omega (arith, e); three = λ e. omega (arith, e); six = λ e. omega (arith, e) }
of_text-apart answer.Overflow is = record { two = λ e. omega (arith, e); three = λ e. omega (arith, e); six = λ e. omega (arith, e) }
of_text-apart (answer.StepsEnded n) is = record { two = λ e. omega (arith, e); three = λ e. omega (arith, e); six = λ e. omega (arith, e) }

pub fault-twelve : (fault : EntryFault) → status_of (fault_answer fault) ≡ 12
fault-twelve fault.ArgCount = refl
fault-twelve (fault.ArgKind n) = refl
fault-twelve (fault.ArgIndex n) = refl
fault-twelve (fault.EntryRow n) = refl

-- how a run ends is told by the status
pub end-status : (steps : ℕ) (end : End) → IsEndOfRun (status_of (answer_of steps end))
end-status steps (ends.Returned word) = Returned refl
end-status steps ends.NoStore = NoStore refl
end-status steps ends.Overflow = Overflow refl
end-status steps ends.Spent = Spent refl

pub end-no_store : (steps : ℕ) (end : End) → status_of (answer_of steps end) ≡ 13 → end ≡ ends.NoStore
end-no_store steps (ends.Returned word) e = absurd (omega (arith, e))
end-no_store steps ends.NoStore e = refl
end-no_store steps ends.Overflow e = absurd (omega (arith, e))
end-no_store steps ends.Spent e = absurd (omega (arith, e))

pub end-overflow : (steps : ℕ) (end : End) → status_of (answer_of steps end) ≡ 14 → end ≡ ends.Overflow
end-overflow steps (ends.Returned word) e = absurd (omega (arith, e))
end-overflow steps ends.NoStore e = absurd (omega (arith, e))
end-overflow steps ends.Overflow e = refl
end-overflow steps ends.Spent e = absurd (omega (arith, e))

pub end-spent : (steps : ℕ) (end : End) → status_of (answer_of steps end) ≡ 15 → end ≡ ends.Spent
end-spent steps (ends.Returned word) e = absurd (omega (arith, e))
end-spent steps ends.NoStore e = absurd (omega (arith, e))
end-spent steps ends.Overflow e = absurd (omega (arith, e))
end-spent steps ends.Spent e = refl

-- no other status
pub other_status : (number : ℕ) → IsEndOfRun number → number ≢ 0 → number ≢ 13 → number ≢ 14 → number ≢ 15 → ⊥
other_status number (Returned e) a b c d = a e
other_status number (NoStore e) a b c d = b e
other_status number (Overflow e) a b c d = c e
other_status number (Spent e) a b c d = d e

or_command : Meant → Option Meant → Meant
or_command d None = d
or_command d (Some command) = command

one_command : (meant : Option Meant) (a b : Meant) → meant ≡ Some a → meant ≡ Some b → a ≡ b
unfolding or_command
one_command meant a b e f = ap (or_command a) (sym e ∙ f)

-- ---- what went

module _ (meant : Option Meant) (content : List ℕ → Option (List ℕ)) (reads reads' : List ℕ → ℕ) (status faults faults' : ℕ) (out out' : Option (List ℕ))
    (went : Went meant content reads reads' status faults faults' out out') where
  pub all_of : status ≢ 4 → SaidAll went.report status faults faults' out out'
  all_of not = ⊎_elim (λ all. all) (λ part. absurd (not part.status_is)) went.said

  status_as : (said : Answer) (other : ℕ) → went.report ≡ plain said → status ≡ status_of went.report.answer → status ≡ other → status_of said ≡ other
  status_as said other is own e = ap (λ (r : Report). status_of r.answer) (sym is) ∙ sym own ∙ e

  pub clause-statuses : IsStatus status
  clause-statuses =
      ⊎_elim (λ all. subst IsStatus (sym all.status_is) (status_of-is went.report.answer)) (λ part. let four : IsStatus 4 = refl in subst IsStatus (sym part.status_is) four)
      went.said

  pub clause-said : status ≢ 4 → Said meant content reads reads' status out out'
  clause-said not = let all = all_of not in record { report = went.report; cause = went.cause; status_is = all.status_is; said = all.said }

  part_of : SaidAll went.report status faults faults' out out' ⊎ SaidPart went.report status faults faults' out out' → status ≡ 4
      → SaidPart went.report status faults faults' out out'
  part_of (inl all) four = absurd (not_four went.report.answer (sym all.status_is ∙ four))
  part_of (inr part) four = part

  pub clause-put_failed : status ≡ 4 → Rose faults faults'
  clause-put_failed four = (part_of went.said four).rose

  pub clause-cut : status ≡ 4 → SaidInPart meant content reads reads' out out'
  clause-cut four = record { report = went.report; cause = went.cause; part = (part_of went.said four).part }

  pub clause-rises : faults < faults' → status ≡ 4
  clause-rises rises = ⊎_elim (λ all. let same : faults' ≡ faults = all.counted in absurd (omega (arith, rises, same))) (λ part. part.status_is) went.said

  -- the status is none of 2, 3, 4 and 6: it is what is reported of the text
  tells_of : Cause meant content reads reads' went.report → status ≡ status_of went.report.answer → status ≢ 2 → status ≢ 3 → status ≢ 6
      → Tells meant content went.report
  tells_of (NoCommand none is) own two three six = absurd (two (own ∙ ap (λ (r : Report). status_of r.answer) is))
  tells_of (ReadFailed rose is) own two three six = absurd (three (own ∙ ap (λ (r : Report). status_of r.answer) is))
  tells_of (Memory is) own two three six = absurd (six (own ∙ ap (λ (r : Report). status_of r.answer) is))
  tells_of (Told tells) own two three six = tells

  none_of : Cause meant content reads reads' went.report → status ≡ status_of went.report.answer → status ≡ 2 → meant ≡ None
  none_of (NoCommand none is) own two = none
  none_of (ReadFailed rose is) own two = absurd (omega (arith, status_as answer.ReadFailed 2 is own two))
  none_of (Memory is) own two = absurd (omega (arith, status_as answer.Memory 2 is own two))
  none_of (Told tells) own two = absurd ((of_text-apart went.report.answer tells.of_text).two (sym own ∙ two))

  pub clause-no_command : status ≡ 2 → meant ≡ None
  clause-no_command two =
      let not : status ≢ 4 = λ four. omega (arith, two, four) in
      none_of went.cause (all_of not).status_is two

  two_of : Cause meant content reads reads' went.report → status ≡ status_of went.report.answer → meant ≡ None → status ≢ 6 → status ≡ 2
  two_of (NoCommand none is) own nothing six = own ∙ ap (λ (r : Report). status_of r.answer) is
  two_of (ReadFailed rose is) own nothing six = absurd (none-some rose.command (sym nothing ∙ rose.is))
  two_of (Memory is) own nothing six = absurd (six (own ∙ ap (λ (r : Report). status_of r.answer) is))
  two_of (Told tells) own nothing six = absurd (none-some tells.command (sym nothing ∙ tells.is))

  pub clause-words : meant ≡ None → status ≢ 4 → status ≢ 6 → status ≡ 2
  clause-words nothing not six = two_of went.cause (all_of not).status_is nothing six

  rose_of : Cause meant content reads reads' went.report → status ≡ status_of went.report.answer → status ≡ 3 → TextRose meant reads reads'
  rose_of (NoCommand none is) own three = absurd (omega (arith, status_as answer.NoCommand 3 is own three))
  rose_of (ReadFailed rose is) own three = rose
  rose_of (Memory is) own three = absurd (omega (arith, status_as answer.Memory 3 is own three))
  rose_of (Told tells) own three = absurd ((of_text-apart went.report.answer tells.of_text).three (sym own ∙ three))

  pub clause-read_failed : status ≡ 3 → TextRose meant reads reads'
  clause-read_failed three =
      let not : status ≢ 4 = λ four. omega (arith, three, four) in
      rose_of went.cause (all_of not).status_is three

  memory_of : Cause meant content reads reads' went.report → status ≡ status_of went.report.answer → status ≡ 6 → went.report ≡ plain answer.Memory
  memory_of (NoCommand none is) own six = absurd (omega (arith, status_as answer.NoCommand 6 is own six))
  memory_of (ReadFailed rose is) own six = absurd (omega (arith, status_as answer.ReadFailed 6 is own six))
  memory_of (Memory is) own six = is
  memory_of (Told tells) own six = absurd ((of_text-apart went.report.answer tells.of_text).six (sym own ∙ six))

  pub clause-memory : status ≡ 6 → out' ≡ append_known out (line_of answer.Memory)
  clause-memory six =
      let not : status ≢ 4 = λ four. omega (arith, six, four) in
      let all = all_of not in
      all.said ∙ ap (λ (r : Report). append_known out (report_text r)) (memory_of went.cause all.status_is six)

  -- ---- told contents

  module _ (command : Meant) (bytes : List ℕ) (is : meant ≡ Some command) (here : content (text_of command) ≡ Some bytes) where
    reports_of : Tells meant content went.report → Reports command bytes went.report
    reports_of tells =
        let same = one_command meant tells.command command tells.is is in
        subst (λ c. Reports c bytes went.report) same (tells.told bytes (ap (λ c. content (text_of c)) same ∙ here))

    not_two : status ≡ 2 → ⊥
    not_two two = none-some command (sym (clause-no_command two) ∙ is)

    pub told_report : status ≢ 3 → status ≢ 4 → status ≢ 6 → Reports command bytes went.report
    told_report three four six = reports_of (tells_of went.cause (all_of four).status_is not_two three six)

    pub clause-reported : OneProgram → (report : Report) → Reports command bytes report → status ≢ 3 → status ≢ 4 → status ≢ 6
        → (status ≡ status_of report.answer) × (out' ≡ append_known out (report_text report))
    clause-reported one report reports three four six =
        let all = all_of four in
        let same = one_report one command bytes went.report report (told_report three four six) reports in
        (all.status_is ∙ ap (λ (r : Report). status_of r.answer) same, all.said ∙ ap (λ (r : Report). append_known out (report_text r)) same)

    completes : OneProgram → Cause meant content reads reads' went.report → SaidAll went.report status faults faults' out out' → (report : Report) → Reports command bytes report
        → (Rose (reads (text_of command)) (reads' (text_of command)) → ⊥) → (status ≡ status_of report.answer) ⊎ (status ≡ 6)
    completes one (NoCommand none e) all report reports no_read = absurd (none-some command (sym none ∙ is))
    completes one (ReadFailed rose e) all report reports no_read =
        let same = one_command meant rose.command command rose.is is in
        absurd (no_read (subst (λ c. Rose (reads (text_of c)) (reads' (text_of c))) same rose.rose))
    completes one (Memory e) all report reports no_read = inr (all.status_is ∙ ap (λ (r : Report). status_of r.answer) e)
    completes one (Told tells) all report reports no_read =
        inl (all.status_is ∙ ap (λ (r : Report). status_of r.answer) (one_report one command bytes went.report report (reports_of tells) reports))

    pub clause-complete : OneProgram → (report : Report) → Reports command bytes report → (Rose (reads (text_of command)) (reads' (text_of command)) → ⊥)
        → (Rose faults faults' → ⊥) → (status ≡ status_of report.answer) ⊎ (status ≡ 6)
    clause-complete one report reports no_read no_put =
        ⊎_elim (λ all. completes one went.cause all report reports no_read) (λ part. absurd (no_put part.rose)) went.said

  -- what follows of a status of the text
  module _ (apart : IsApart status) (not : status ≢ 4) where
    tells : Tells meant content went.report
    tells = tells_of went.cause (all_of not).status_is apart.two apart.three apart.six

    pub of_text : (Holds : Meant → List ℕ → Type 0) → ((command : Meant) (bytes : List ℕ) → Reports command bytes went.report → Holds command bytes)
        → OfText meant content Holds
    of_text Holds from = record { command = tells.command; is = tells.is; told = λ bytes here. from tells.command bytes (tells.told bytes here) }
