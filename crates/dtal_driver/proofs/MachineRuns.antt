-- A loop that runs a machine and puts the lines of its numbers.
use Rattle.std.proofs.Common.{◌≡◌, ◌∙◌, ℕ, zero, suc, ℤ, List, [], ◌∷◌, ◌++◌, Option, Some, option_to_list, refl, sym, ap, subst, append_assoc, append-nil}
use Rattle.std.specs.Io.KnownBytes.{append_known}
use Rattle.xan_io.specs.Agreement.{Begins}
use Rattle.xan_io.specs.Outcome.{Outcome}
use Rattle.xan_io.specs.Written.{AppendsPrefix}
use Rattle.xan_io.proofs.Puts.{append_known-nil, append_known-twice, prefix_behind, prefix_within}
use Rattle.dtal_code.specs.Machine.{State, On, Off, after}
use Rattle.dtal_code.specs.ObjectCode.{Code}
use Rattle.dtal_code.specs.Running.{step, run}
use Rattle.dtal_machine.specs.declared.event.Event.TheVariants.{Going, Print, Returned, NoStore, Overflow}
use Rattle.dtal_machine.specs.Steps.{Loaded, Now, Live, Over, IsLive, event, stepped, moved, run_from, run_on}
use Rattle.dtal_machine.proofs.DrivenMachines.{Stands, stands-begins, stands-going, stands-print, stands-returned, stands-no_store, stands-overflow, stands-spent}
use Rattle.xan_io.specs.Lines.{number_line}
use Rattle.dtal_driver.specs.Answers.{number_lines}
use Rattle.dtal_driver.specs.declared.run.End.{End}
use Rattle.dtal_driver.specs.declared.run.End.TheVariants as ends
use Rattle.dtal_driver.specs.Report.{how_of}

-- ---- lines

pub lines-append : (front back : List ℤ) → number_lines (front ++ back) ≡ number_lines front ++ number_lines back
lines-append [] back = refl
lines-append (n ∷ front) back =
    ap (λ lines. number_line n ++ lines) (lines-append front back) ∙ sym (append_assoc (number_line n) (number_lines front) (number_lines back))

lines-one_more : (front : List ℤ) (n : ℤ) → number_lines (front ++ n ∷ []) ≡ number_lines front ++ number_line n
lines-one_more front n = lines-append front (n ∷ []) ∙ ap (λ line. number_lines front ++ line) (append-nil (number_line n))

-- ---- what was printed stays printed

begins_more : (front out whole : List ℤ) → Begins (front ++ out) whole → Begins front whole
begins_more front out whole b = (out ++ b.0, b.1 ∙ append_assoc front out b.0)

run-begins : (code : Code) (steps : ℕ) (printed : List ℤ) (state : State) → Begins printed (run code steps printed state).printed
unfolding run
run-begins code zero printed state = ([], sym (append-nil printed))
run-begins code (suc steps) printed state =
    elim (step code state) as (λ next. Begins printed (after next printed (run code steps)).printed) [
      | On number next ↦ begins_more printed (option_to_list number) _ (run-begins code steps (printed ++ option_to_list number) next)
      | Off how ↦ ([], sym (append-nil printed))
    ]

from-begins : (code : Code) (now : Now) (steps : ℕ) (printed : List ℤ) → Begins printed (run_from code now steps printed).printed
from-begins code (Live state) steps printed = run-begins code steps printed state
from-begins code (Over end) steps printed = ([], sym (append-nil printed))

-- ---- the loop

-- So far the run that is to come to this outcome has printed these numbers, whose lines are put, and it goes on in this machine with so
-- many steps left.
pub record RunsOn (whole : Outcome) (machine : Loaded) (left : ℕ) (out now : Option (List ℕ)) (faults faults' : ℕ) : Type 0 where
  pub printed : List ℤ
  pub stands : Stands whole machine left printed
  pub said : now ≡ append_known out (number_lines printed)
  pub counted : faults' ≡ faults

pub runs-begin : (machine : Loaded) (steps left : ℕ) (out : Option (List ℕ)) (faults : ℕ) → left ≡ steps → IsLive machine.now
    → RunsOn (run_on machine steps []) machine left out out faults faults
runs-begin machine steps left out faults same live = record {
  printed = [];
  stands = subst (λ n. Stands (run_on machine steps []) machine n []) (sym same) (stands-begins machine steps live);
  said = sym (append_known-nil out);
  counted = refl;
}

module _ (whole : Outcome) (machine : Loaded) (left : ℕ) (out now : Option (List ℕ)) (faults faults' : ℕ) (runs : RunsOn whole machine left out now faults faults') where
  said_whole : (end : End) → whole ≡ record { printed = runs.printed; how = how_of end } → now ≡ append_known out (number_lines whole.printed)
  said_whole end e = runs.said ∙ ap (λ (o : Outcome). append_known out (number_lines o.printed)) (sym e)

  said_end : (end : End) → whole ≡ record { printed = runs.printed; how = how_of end } → (now ≡ append_known out (number_lines whole.printed)) × (whole.how ≡ how_of end)
  said_end end e = (said_whole end e, ap (λ (o : Outcome). o.how) e)

  -- no step is left
  pub runs-spent : left ≡ 0 → (now ≡ append_known out (number_lines whole.printed)) × (whole.how ≡ how_of ends.Spent)
  runs-spent none = said_end ends.Spent (stands-spent whole machine left runs.printed runs.stands none)

  module _ (fewer : ℕ) (one : left ≡ suc fewer) where
    pub runs-going : (next : Loaded) → next ≡ moved machine → event (stepped machine) ≡ Some Going → RunsOn whole next fewer out now faults faults'
    runs-going next same e = record {
      printed = runs.printed;
      stands = stands-going whole machine left runs.printed runs.stands fewer one next same e;
      said = runs.said;
      counted = runs.counted;
    }

    pub runs-print : (next : Loaded) (number put_number : ℤ) (now' : Option (List ℕ)) (faults'' : ℕ) → next ≡ moved machine → event (stepped machine) ≡ Some (Print number)
        → put_number ≡ number → now' ≡ append_known now (number_line put_number) → faults'' ≡ faults' → RunsOn whole next fewer out now' faults faults''
    runs-print next number put_number now' faults'' same e one_number put counts = record {
      printed = runs.printed ++ number ∷ [];
      stands = stands-print whole machine left runs.printed runs.stands fewer one next number same e;
      said = put ∙ ap (λ n. append_known now (number_line n)) one_number ∙ ap (λ told. append_known told (number_line number)) runs.said ∙ append_known-twice out (number_lines runs.printed) (number_line number)
          ∙ ap (append_known out) (sym (lines-one_more runs.printed number));
      counted = counts ∙ runs.counted;
    }

    -- a part of the line of the number that was printed
    pub runs-cut : (number put_number : ℤ) (now' : Option (List ℕ)) → event (stepped machine) ≡ Some (Print number) → put_number ≡ number
        → AppendsPrefix now now' (number_line put_number) → AppendsPrefix out now' (number_lines whole.printed)
    runs-cut number put_number now' e one_number part =
        let next = moved machine in
        let s = stands-print whole machine left runs.printed runs.stands fewer one next number refl e in
        let all = runs.printed ++ number ∷ [] in
        let b = from-begins next.code next.now fewer all in
        let printed : whole.printed ≡ all ++ b.0 = ap (λ (o : Outcome). o.printed) (sym s.so_far) ∙ b.1 in
        let lines : number_lines whole.printed ≡ (number_lines runs.printed ++ number_line number) ++ number_lines b.0 =
        ap number_lines printed ∙ lines-append all b.0 ∙ ap (λ front. front ++ number_lines b.0) (lines-one_more runs.printed number) in
        let from : AppendsPrefix (append_known out (number_lines runs.printed)) now' (number_line number) =
        subst (λ told. AppendsPrefix told now' (number_line number)) runs.said (subst (λ n. AppendsPrefix now now' (number_line n)) one_number part) in
        subst (AppendsPrefix out now') (sym lines)
        (prefix_within out now' (number_lines runs.printed ++ number_line number) (number_lines b.0)
        (prefix_behind out now' (number_lines runs.printed) (number_line number) from))

    pub runs-returned : (word : ℤ) → event (stepped machine) ≡ Some (Returned word)
        → (now ≡ append_known out (number_lines whole.printed)) × (whole.how ≡ how_of (ends.Returned word))
    runs-returned word e = said_end (ends.Returned word) (stands-returned whole machine left runs.printed runs.stands fewer one word e)

    pub runs-no_store : event (stepped machine) ≡ Some NoStore → (now ≡ append_known out (number_lines whole.printed)) × (whole.how ≡ how_of ends.NoStore)
    runs-no_store e = said_end ends.NoStore (stands-no_store whole machine left runs.printed runs.stands fewer one e)

    pub runs-overflow : event (stepped machine) ≡ Some Overflow → (now ≡ append_known out (number_lines whole.printed)) × (whole.how ≡ how_of ends.Overflow)
    runs-overflow e = said_end ends.Overflow (stands-overflow whole machine left runs.printed runs.stands fewer one e)
