-- What was said of a run, from what was put of it and then said.
use Rattle.std.proofs.Common.{◌≡◌, ◌≢◌, ◌∙◌, inl, inr, ℕ, ℤ, List, [], ◌∷◌, ◌++◌, map, Option, None, Some, refl, sym, ap, subst, append_assoc}
use Rattle.std.specs.Prelude.{take}
use Rattle.std.specs.List.{concat}
use Rattle.std.specs.Io.KnownBytes.{append_known}
use Rattle.xan_io.specs.Entry.{EntryFault, unless_faulty}
use Rattle.xan_io.specs.Faults.{Rose}
use Rattle.xan_io.specs.Lines.{number_line}
use Rattle.xan_io.specs.Outcome.{How, Outcome}
use Rattle.xan_io.specs.Outcome as how
use Rattle.xan_io.specs.Written.{AppendsPrefix}
use Rattle.xan_io.specs.declared.arg.Arg.{Arg}
use Rattle.xan_io.proofs.Puts.{append_known-twice, prefix_behind, prefix_within}
use Rattle.run_options.specs.declared.options.Limits.{Limits}
use Rattle.xanadu_tree.specs.Plain as core
use Rattle.typed_core.specs.Meaning.{source_fault, source_outcome}
use Rattle.source_safety.specs.Whole.{IsNeverStuck, NoneIsStuck}
use Rattle.source_evaluator.specs.Evaluating.{Ended, Faulted, BrokeOff, RanShort, how_of, number_lines, printed_by}
use Rattle.source_evaluator.specs.declared.end.SourceEnd.{SourceEnd}
use Rattle.source_evaluator.specs.declared.end.SourceEnd.TheVariants as ends
use Rattle.command_reports.specs.declared.answer.Answer.TheVariants as answer
use Rattle.command_reports.specs.declared.run_end.RunEnd.{RunEnd}
use Rattle.command_reports.specs.declared.run_end.RunEnd.TheVariants as end
use Rattle.command_reports.specs.Report.{Report, Ran, Short, answer_report, end_report, behind_numbers}
use Rattle.command_reports.specs.Said.{Says}
use Rattle.source_runs.specs.Runs.{said_end, fault_end, end_found, entry_found, run_found, RunSaid}

-- ---- lines

numbers_first : (printed : List ℤ) (lines : List (List ℕ)) → concat (map number_line printed ++ lines) ≡ number_lines printed ++ concat lines
numbers_first [] lines = refl
numbers_first (n ∷ printed) lines =
    ap (λ rest. number_line n ++ rest) (numbers_first printed lines) ∙ sym (append_assoc (number_line n) (number_lines printed) (concat lines))

module _ (printed : List ℤ) (report : Report) (status faults faults' : ℕ) (out out' : Option (List ℕ)) where
  -- the numbers are put, and then this is said
  behind_said : (between : Option (List ℕ)) (counted : ℕ) → between ≡ append_known out (number_lines printed) → counted ≡ faults
      → Says report status counted faults' between out' → Says (behind_numbers printed report) status faults faults' out out'
  behind_said between counted is same (inl all) = inl
      (record {
        status_is = all.status_is;
        said = all.said ∙ ap (λ told. append_known told (concat report.lines)) is ∙ append_known-twice out (number_lines printed) (concat report.lines)
            ∙ ap (append_known out) (sym (numbers_first printed report.lines));
        counted = all.counted ∙ same;
      })
  behind_said between counted is same (inr part) = inr
      (record {
        status_is = part.status_is;
        part = subst (AppendsPrefix out out') (sym (numbers_first printed report.lines))
            (prefix_behind out out' (number_lines printed) (concat report.lines) (subst (λ told. AppendsPrefix told out' (concat report.lines)) is part.part));
        rose = subst (λ n. Rose n faults') same part.rose;
      })

  -- only a part of the numbers is put
  cut_said : status ≡ 4 → AppendsPrefix out out' (number_lines printed) → Rose faults faults' → Says (behind_numbers printed report) status faults faults' out out'
  cut_said four part rose = inr
      (record {
        status_is = four;
        part = subst (AppendsPrefix out out') (sym (numbers_first printed report.lines)) (prefix_within out out' (number_lines printed) (concat report.lines) part);
        rose = rose;
      })

-- the number of an end, as it is called elsewhere
pub as_number : (of : ℕ → RunEnd) (a b status faults faults' : ℕ) (out out' : Option (List ℕ)) → Says (end_report (of a)) status faults faults' out out' → a ≡ b
    → Says (end_report (of b)) status faults faults' out out'
as_number of a b status faults faults' out out' says is = subst (λ n. Says (end_report (of n)) status faults faults' out out') is says

-- ---- ends

said_of_how : (units : ℕ) (printed : List ℤ) (end : SourceEnd) → end_found units printed (how_of end) ≡ Ran printed (said_end units end)
said_of_how units printed (ends.Returned word) = refl
said_of_how units printed ends.NoStore = refl
said_of_how units printed ends.Overflow = refl
said_of_how units printed ends.FuelEnded = refl

has_end : (units : ℕ) (printed : List ℤ) (found : How) → found ≢ how.Stuck → (end : RunEnd) × (end_found units printed found ≡ Ran printed end)
has_end units printed (how.Returned word) goes = (end.Returned word, refl)
has_end units printed how.NoStore goes = (end.NoStore, refl)
has_end units printed how.Overflow goes = (end.Overflow, refl)
has_end units printed how.Running goes = (end.FuelEnded units, refl)
has_end units printed how.Stuck goes = absurd (goes refl)

clean_goes : (found : Option EntryFault) (run : ℕ → Outcome) (units : ℕ) → found ≡ None → NoneIsStuck (unless_faulty found run) → (run units).how ≢ how.Stuck
clean_goes None run units e none = none units
clean_goes (Some fault) run units e none = absurd cc

module _ (program : core.Program) (limits : Limits) (args : List Arg) (status faults between faults' : ℕ) (out put out' : Option (List ℕ)) where
  abbrev fault_found : Option EntryFault
  fault_found = source_fault program args

  abbrev run : Outcome
  run = source_outcome program args limits.heap limits.depth limits.units

  found_of : (end : RunEnd) → fault_found ≡ None → end_found limits.units run.printed run.how ≡ Ran run.printed end
      → run_found program limits args ≡ Ran run.printed end
  found_of end clean is =
      ap (λ found. entry_found limits.units (unless_faulty found (source_outcome program args limits.heap limits.depth))) clean ∙ is

  -- it came to this end
  pub ended_said : (end : SourceEnd) → Ended fault_found run out put faults between end
      → Says (end_report (said_end limits.units end)) status between faults' put out' → RunSaid program limits args status faults faults' out out'
  ended_said end ended says = record {
    found = Ran run.printed (said_end limits.units end);
    finds = found_of (said_end limits.units end) ended.clean (ap (end_found limits.units run.printed) ended.how ∙ said_of_how limits.units run.printed end);
    said = behind_said run.printed (end_report (said_end limits.units end)) status faults faults' out out' put between ended.lines ended.counted says;
  }

  -- the arguments have this fault
  pub faulted_said : (fault : EntryFault) → Faulted fault_found run out put faults between fault → Says (end_report (fault_end fault)) status between faults' put out'
      → RunSaid program limits args status faults faults' out out'
  faulted_said fault faulted says = record {
    found = Ran [] (fault_end fault);
    finds = ap (λ found. entry_found limits.units (unless_faulty found (source_outcome program args limits.heap limits.depth))) faulted.is;
    said = subst (λ told. Says (end_report (fault_end fault)) status faults faults' told out') faulted.unsaid
        (subst (λ n. Says (end_report (fault_end fault)) status n faults' put out') faulted.counted says);
  }

  -- memory ran out
  pub short_said : RanShort fault_found run out put faults between → Says (answer_report answer.Memory) status between faults' put out'
      → RunSaid program limits args status faults faults' out out'
  short_said short says = record {
    found = Short (take short.count (printed_by fault_found run));
    finds = record { count = short.count; is = refl };
    said = behind_said (take short.count (printed_by fault_found run)) (answer_report answer.Memory) status faults faults' out out' put between short.lines short.counted says;
  }

  -- the sink failed
  pub broken_said : IsNeverStuck program → BrokeOff fault_found run out out' faults faults' → status ≡ 4 → RunSaid program limits args status faults faults' out out'
  broken_said never broke four =
      let goes = clean_goes fault_found (source_outcome program args limits.heap limits.depth) limits.units broke.clean (never args limits.heap limits.depth) in
      let e = has_end limits.units run.printed run.how goes in
      record {
        found = Ran run.printed e.0;
        finds = found_of e.0 broke.clean e.1;
        said = cut_said run.printed (end_report e.0) status faults faults' out out' four broke.part broke.rose;
      }
