-- What a report says of the text: the ways in which one comes, and that a text has one.
use Rattle.std.proofs.Common.{◌≡◌, ◌∙◌, ℕ, zero, suc, ◌<◌, ◌≤◌, Bool, true, false, nat_lt, ℤ, List, [], ◌∷◌, ◌++◌, length, take, Option, None, Some, Result, Ok, Err, refl, sym, ap, subst, append_assoc, arith}
use Rattle.std.specs.Prelude.{option_map}
use Rattle.std.proofs.lemmas.Bool.Decides.{nat_tests}
use Rattle.std.proofs.lemmas.Option.{none-some}
use Rattle.xan_io.specs.declared.arg.Arg.{Arg}
use Rattle.xan_io.specs.Entry.{EntryFault}
use Rattle.xan_io.specs.Outcome.{How}
use Rattle.xan_io.specs.Outcome as how
use Rattle.xan_read.specs.Reader.{Begins, IsLongest}
use Rattle.state_types.specs.declared.state.StateType.{StateType}
use Rattle.dtal_code.specs.declared.program.DtalProgram.{DtalProgram}
use Rattle.dtal_code.specs.declared.refusal.Refusal.{Refusal}
use Rattle.dtal_code.specs.declared.refusal.Where.{Where}
use Rattle.dtal_code.specs.declared.refusal.Rule.{Rule}
use Rattle.dtal_code.specs.Machine.{State}
use Rattle.dtal_code.specs.ObjectCode.{code_of}
use Rattle.dtal_code.specs.Refusing.{verified}
use Rattle.dtal_code.specs.Runs.{program_entry, outcome_from}
use Rattle.dtal_text.specs.WholeText.{IsSpelled}
use Rattle.dtal_driver.specs.declared.answer.Answer.TheVariants as answer
use Rattle.run_options.specs.declared.options.Limits.{Limits}
use Rattle.dtal_driver.specs.declared.run.End.{End}
use Rattle.dtal_driver.specs.declared.run.End.TheVariants as ends
use Rattle.dtal_driver.specs.Causes.{IsText, IsNoProgram, IsRefusedProgram}
use Rattle.dtal_driver.specs.Report.{Report, plain, end_of, how_of, answer_of, fault_answer, run_report, accepted_report, program_report, Reports}
use Rattle.dtal_driver.specs.Report.{TooLong as IsTooLong, NoProgram as IsNone, OfProgram as IsOf}
use Rattle.dtal_driver.specs.VerifiedTexts.{text_most, accepted_answer}
use Rattle.dtal_driver.specs.Words.{Meant, Verify, Run}

-- ---- one longest front

begins_shorter : {A : Type 0} (Is : A → List ℕ → Type 0) (front more : List ℕ) → Begins Is (front ++ more) → Begins Is front
begins_shorter Is front more b = (b.0, more ++ b.1, subst (Is b.0) (append_assoc front more b.1) b.2)

take_longer : (a b : ℕ) (xs : List ℕ) → a ≤ b → (more : List ℕ) × (take b xs ≡ take a xs ++ more)
take_longer zero b xs h = (take b xs, refl)
take_longer (suc a) zero xs h = absurd (omega arith)
take_longer (suc a) (suc b) [] h = ([], refl)
take_longer (suc a) (suc b) (x ∷ xs) h = let r = take_longer a b xs (omega arith) in (r.0, ap (λ t. x ∷ t) r.1)

module _ {A : Type 0} (Is : A → List ℕ → Type 0) (bytes : List ℕ) where
  no_longer : (j k : ℕ) → IsLongest Is bytes j → IsLongest Is bytes k → j < k → ⊥
  no_longer j k a b less =
      let within = b.within in
      let longer = take_longer (suc j) k bytes (omega arith) in
      a.no_more (omega arith) (begins_shorter Is (take (suc j) bytes) longer.0 (subst (Begins Is) longer.1 b.begins))

  one_longest : (j k : ℕ) → IsLongest Is bytes j → IsLongest Is bytes k → j ≡ k
  one_longest j k a b = go (nat_lt j k) refl (nat_lt k j) refl
    where
      go : (x : Bool) → nat_lt j k ≡ x → (y : Bool) → nat_lt k j ≡ y → j ≡ k
      go true e y f = absurd (no_longer j k a b (grind (arith, nat_tests)))
      go false e true f = absurd (no_longer k j b a (grind (arith, nat_tests)))
      go false e false f = grind (arith, nat_tests)

-- ---- one report

or_report : Report → Option Report → Report
or_report d None = d
or_report d (Some report) = report

pub one_some : (a b : Report) → Some a ≡ Some b → a ≡ b
unfolding or_report
one_some a b e = ap (or_report a) e

-- a text spells one program
abbrev pub OneProgram : Type 0
OneProgram = (bytes : List ℕ) (p q : DtalProgram) → IsSpelled p bytes → IsSpelled q bytes → p ≡ q

pub one_report : OneProgram → (command : Meant) (bytes : List ℕ) (a b : Report) → Reports command bytes a → Reports command bytes b → a ≡ b
one_report one command bytes a b (IsTooLong long is) (IsTooLong long' is') = is ∙ sym is'
one_report one command bytes a b (IsTooLong long is) (IsNone short at longest is') = absurd (omega (arith, long, short))
one_report one command bytes a b (IsTooLong long is) (IsOf short program spells is') = absurd (omega (arith, long, short))
one_report one command bytes a b (IsNone short at longest is) (IsTooLong long is') = absurd (omega (arith, long, short))
one_report one command bytes a b (IsNone short at longest is) (IsNone short' at' longest' is') =
    is ∙ ap (λ n. plain (answer.NoProgram n)) (one_longest IsSpelled bytes at at' longest longest') ∙ sym is'
one_report one command bytes a b (IsNone short at longest is) (IsOf short' program spells is') = absurd (longest.no_text program spells)
one_report one command bytes a b (IsOf short program spells is) (IsTooLong long is') = absurd (omega (arith, long, short))
one_report one command bytes a b (IsOf short program spells is) (IsNone short' at longest is') = absurd (longest.no_text program spells)
one_report one command bytes a b (IsOf short program spells is) (IsOf short' program' spells' is') =
    one_some a b (sym is ∙ ap (λ p. program_report command p (verified p)) (one bytes program program' spells spells') ∙ is')

-- ---- how it comes

pub data Way (command : Meant) (bytes : List ℕ) (report : Report) : Type 0 where
  TooLong : (text_most < length bytes) → (report ≡ plain answer.TooLong) → Way command bytes report
  NoProgram : (at : ℕ) → IsNoProgram bytes at → (report ≡ plain (answer.NoProgram at)) → Way command bytes report
  Denies : (at : Where) (rule : Rule) → IsRefusedProgram bytes at rule → (report ≡ plain (answer.Refused at rule)) → Way command bytes report
  Accepts : (name : List ℕ) → (command ≡ Verify name) → (program : DtalProgram) → IsText bytes program → (states : List (List StateType)) → (verified program ≡ Ok states)
      → (report ≡ plain (accepted_answer program)) → Way command bytes report
  IsFaulty : (name : List ℕ) (limits : Limits) (args : List Arg) → (command ≡ Run name limits args) → (program : DtalProgram) → IsText bytes program
      → (states : List (List StateType)) → (verified program ≡ Ok states) → (fault : EntryFault) → (program_entry program args limits.heap limits.depth ≡ Err fault)
      → (report ≡ plain (fault_answer fault)) → Way command bytes report
  Runs : (name : List ℕ) (limits : Limits) (args : List Arg) → (command ≡ Run name limits args) → (program : DtalProgram) → IsText bytes program
      → (states : List (List StateType)) → (verified program ≡ Ok states) → (entry : Option State) (end : End) → (program_entry program args limits.heap limits.depth ≡ Ok entry)
      → ((outcome_from (code_of program) entry limits.units).how ≡ how_of end)
      → (report ≡ record { printed = (outcome_from (code_of program) entry limits.units).printed; answer = answer_of limits.units end }) → Way command bytes report

end-way : (steps : ℕ) (printed : List ℤ) (how : How) (report : Report) → option_map (λ end. record { printed = printed; answer = answer_of steps end }) (end_of how) ≡ Some report
    → (end : End) × (how ≡ how_of end) × (report ≡ record { printed = printed; answer = answer_of steps end })
end-way steps printed (how.Returned word) report e = (ends.Returned word, refl, sym (one_some _ report e))
end-way steps printed how.NoStore report e = (ends.NoStore, refl, sym (one_some _ report e))
end-way steps printed how.Overflow report e = (ends.Overflow, refl, sym (one_some _ report e))
end-way steps printed how.Running report e = (ends.Spent, refl, sym (one_some _ report e))
end-way steps printed how.Stuck report e = absurd (none-some report e)

module _ (bytes : List ℕ) (report : Report) (program : DtalProgram) (text : IsText bytes program) (states : List (List StateType)) (walked : verified program ≡ Ok states) where
  run-way : (name : List ℕ) (limits : Limits) (args : List Arg) (found : Result (Option State) EntryFault) → program_entry program args limits.heap limits.depth ≡ found
      → run_report (code_of program) limits.units found ≡ Some report → Way (Run name limits args) bytes report
  run-way name limits args (Ok entry) begins e =
      let outcome = outcome_from (code_of program) entry limits.units in
      let way = end-way limits.units outcome.printed outcome.how report e in
      Runs name limits args refl program text states walked entry way.0 begins way.1 way.2
  run-way name limits args (Err fault) found e = IsFaulty name limits args refl program text states walked fault found (sym (one_some _ report e))

  accepted-way : (command : Meant) → accepted_report command program ≡ Some report → Way command bytes report
  accepted-way (Verify name) e = Accepts name refl program text states walked (sym (one_some _ report e))
  accepted-way (Run name limits args) e = run-way name limits args (program_entry program args limits.heap limits.depth) refl e

program-way : (command : Meant) (bytes : List ℕ) (report : Report) (program : DtalProgram) → IsText bytes program → (walked : Result (List (List StateType)) Refusal)
    → verified program ≡ walked → program_report command program walked ≡ Some report → Way command bytes report
program-way command bytes report program text (Ok states) is e = accepted-way bytes report program text states is command e
program-way command bytes report program text (Err refusal) is e =
    Denies refusal.at refusal.rule (record { program = program; text = text; refused = is }) (sym (one_some _ report e))

pub way_of : (command : Meant) (bytes : List ℕ) (report : Report) → Reports command bytes report → Way command bytes report
way_of command bytes report (IsTooLong long is) = TooLong long is
way_of command bytes report (IsNone short at longest is) = NoProgram at (record { short = short; longest = longest }) is
way_of command bytes report (IsOf short program spells is) = program-way command bytes report program (record { short = short; spells = spells }) (verified program) refl is
