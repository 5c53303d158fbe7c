-- A loop over steps that puts the lines of the numbers that they say.
use Rattle.std.proofs.Common.{◌≡◌, ◌≢◌, ◌∙◌, ◌<◌, ◌≤◌, ◌+◌, ◌*◌, ℕ, zero, suc, ℤ, List, [], ◌∷◌, ◌++◌, length, take, Option, Some, None, Result, Ok, Err, refl, sym, ap, subst, append_assoc, append-nil, arith}
use Rattle.std.specs.Prelude.{slice_get}
use Rattle.std.specs.Io.KnownBytes.{append_known}
use Rattle.std.proofs.lemmas.Option.{same_Some}
use Rattle.xan_io.specs.Agreement.{Begins}
use Rattle.xan_io.specs.Faults.{Rose}
use Rattle.xan_io.specs.Lines.{number_line}
use Rattle.xan_io.specs.Outcome as hows
use Rattle.xan_io.specs.Outcome.{How, Outcome, Stuck}
use Rattle.xan_io.specs.Written.{AppendsPrefix}
use Rattle.xan_io.proofs.Puts.{append_known-nil, append_known-twice, prefix_behind, prefix_within}
use Rattle.xanadu_tree.specs.Plain as core
use Rattle.typed_core.specs.Meaning.{outcome_of}
use Rattle.typed_core.specs.SourceRuns.{Answer}
use Rattle.typed_core.specs.SourceValues.{Value}
use Rattle.source_values.specs.Halts.{Fails}
use Rattle.source_values.specs.Values.{Ending}
use Rattle.source_values.specs.declared.halt.Halt.{Halt}
use Rattle.source_values.specs.declared.halt.Halt.TheVariants as halt
use Rattle.source_evaluator.specs.Evaluating.{BeginsIn, Evaluated, answer_of, how_of, number_lines}
use Rattle.source_evaluator.specs.Pending.{R, Told, Tells, meaning}
use Rattle.source_evaluator.specs.Steps as steps
use Rattle.source_evaluator.specs.Steps.{Machine, Event, Goes, Says, Returns}
use Rattle.source_evaluator.specs.Work.{Statements}
use Rattle.source_evaluator.specs.declared.end.SourceEnd.{SourceEnd}
use Rattle.source_evaluator.specs.declared.end.SourceEnd.TheVariants as end
use Rattle.source_evaluator.specs.declared.end.EvalError.TheVariants as error
use Rattle.source_evaluator.proofs.CallMeanings.{step_tells}
use Rattle.source_evaluator.proofs.WorkSizes.{BodiesFit, Fits, LessTold, block_size, measure, step_less}

-- ---- lines

pub lines_append : (front back : List ℤ) → number_lines (front ++ back) ≡ number_lines front ++ number_lines back
lines_append [] back = refl
lines_append (n ∷ front) back =
    ap (λ lines. number_line n ++ lines) (lines_append front back) ∙ sym (append_assoc (number_line n) (number_lines front) (number_lines back))

pub lines_one_more : (front : List ℤ) (n : ℤ) → number_lines (front ++ n ∷ []) ≡ number_lines front ++ number_line n
lines_one_more front n = lines_append front (n ∷ []) ∙ ap (λ line. number_lines front ++ line) (append-nil (number_line n))

take_front : (front back : List ℤ) → take (length front) (front ++ back) ≡ front
take_front [] back = refl
take_front (n ∷ front) back = ap (λ ns. n ∷ ns) (take_front front back)

-- ---- all bodies

abbrev pub all_bodies : List core.Fun → ℕ
all_bodies [] = 0
all_bodies (f ∷ fs) = block_size f.body + 1 + all_bodies fs

bodies_below : (fs : List core.Fun) (n : ℕ) (f : core.Fun) → slice_get fs n ≡ Some f → block_size f.body + 1 ≤ all_bodies fs
bodies_below [] n f e = absurd (let bad : ⊥ = cc in bad)
bodies_below (g ∷ fs) zero f e =
    let same : g ≡ f = same_Some g f e in
    subst (λ (h : core.Fun). block_size h.body + 1 ≤ all_bodies (g ∷ fs)) same (omega arith)
bodies_below (g ∷ fs) (suc n) f e = (let below = bodies_below fs n f e in omega (arith, below))

pub bodies_fit : (fs : List core.Fun) → BodiesFit (all_bodies fs) fs
bodies_fit fs = record { by = bodies_below fs }

first_fits : (fs : List core.Fun) (m : Machine) → BeginsIn fs m → Fits (all_bodies fs) m.work
first_fits fs m begins =
    let below = bodies_below fs begins.number begins.fun begins.there in
    subst (Fits (all_bodies fs)) (sym begins.work) (omega (arith, below), tt)

-- ---- what is printed

-- what an answer has printed begins with what was printed before
abbrev PrintsOn : List ℤ → Answer (Unit {0}) Value → Type 0
PrintsOn p answer = Begins p (outcome_of answer).printed

module _ (funs : List core.Fun) (depth : ℕ) where
  grown : (k limit : ℕ) (p : List ℤ) (e : Ending (Event × Machine)) (answer : Answer (Unit {0}) Value) → Tells funs depth p e answer → LessTold k limit e
      → ((m : Machine) (q : List ℤ) → measure k m < limit → Fits k m.work → PrintsOn q (meaning funs depth m q)) → PrintsOn p answer
  grown k limit p (Ok (Goes, m)) answer told less more =
      let it = more m p less.0 less.1 in
      (it.0, ap (λ (a : Answer (Unit {0}) Value). (outcome_of a).printed) told ∙ it.1)
  grown k limit p (Ok (Says n, m)) answer told less more =
      let it = more m (p ++ n ∷ []) less.0 less.1 in
      (n ∷ it.0, ap (λ (a : Answer (Unit {0}) Value). (outcome_of a).printed) told ∙ it.1 ∙ append_assoc p (n ∷ []) it.0)
  grown k limit p (Ok (Returns word, m)) answer told less more =
      ([], ap (λ (a : Answer (Unit {0}) Value). (outcome_of a).printed) told.2 ∙ told.4 ∙ sym (append-nil p))
  grown k limit p (Err how) answer told less more =
      ([], ap (λ (a : Answer (Unit {0}) Value). (outcome_of a).printed) told.1 ∙ told.2 ∙ sym (append-nil p))

  grows_within : (k : ℕ) → BodiesFit k funs → (limit : ℕ) (m : Machine) (p : List ℤ) → measure k m < limit → Fits k m.work → PrintsOn p (meaning funs depth m p)
  grows_within k bodies zero m p less fits = absurd (omega (arith, less))
  grows_within k bodies (suc limit) m p less fits =
      grown k (measure k m) p (steps.stepped funs depth m) (meaning funs depth m p) (step_tells funs depth m p) (step_less k funs depth m bodies fits)
      (λ n q fewer fit. grows_within k bodies limit n q (omega (arith, fewer, less)) fit)

  pub grows : (k : ℕ) → BodiesFit k funs → (m : Machine) (p : List ℤ) → Fits k m.work → PrintsOn p (meaning funs depth m p)
  grows k bodies m p fits = grows_within k bodies (suc (measure k m)) m p (omega arith) fits

  -- ---- the loop

  -- So far the run that is to come to this answer has printed these numbers, whose lines are put, and it goes on in this machine.
  pub record RunsOn (whole : Answer (Unit {0}) Value) (m : Machine) (out now : Option (List ℕ)) (faults faults' : ℕ) : Type 0 where
    pub printed : List ℤ
    pub stands : whole ≡ meaning funs depth m printed
    pub fits : Fits (all_bodies funs) m.work
    pub said : now ≡ append_known out (number_lines printed)
    pub counted : faults' ≡ faults

  pub runs_begin : (m : Machine) (out : Option (List ℕ)) (faults : ℕ) → BeginsIn funs m → RunsOn (meaning funs depth m []) m out out faults faults
  runs_begin m out faults begins =
      record { printed = []; stands = refl; fits = first_fits funs m begins; said = sym (append_known-nil out); counted = refl }

  -- each step leaves less
  pub steps_less : (m next : Machine) (event : Event) → Fits (all_bodies funs) m.work → steps.stepped funs depth m ≡ Ok (event, next)
      → (measure (all_bodies funs) next < measure (all_bodies funs) m) × Fits (all_bodies funs) next.work
  steps_less m next event fits e =
      subst (LessTold (all_bodies funs) (measure (all_bodies funs) m)) e (step_less (all_bodies funs) funs depth m (bodies_fit funs) fits)

  tells : (m : Machine) (p : List ℤ) (e : Ending (Event × Machine)) → steps.stepped funs depth m ≡ e → Tells funs depth p e (meaning funs depth m p)
  tells m p e is = subst (λ s. Tells funs depth p s (meaning funs depth m p)) is (step_tells funs depth m p)

  module _ (whole : Answer (Unit {0}) Value) (m : Machine) (out now : Option (List ℕ)) (faults faults' : ℕ) (runs : RunsOn whole m out now faults faults') where
    pub runs_go : (next : Machine) → steps.stepped funs depth m ≡ Ok (Goes, next) → RunsOn whole next out now faults faults'
    runs_go next e = record {
      printed = runs.printed;
      stands = runs.stands ∙ tells m runs.printed (Ok (Goes, next)) e;
      fits = (steps_less m next Goes runs.fits e).1;
      said = runs.said;
      counted = runs.counted;
    }

    pub runs_say : (next : Machine) (number put : ℤ) (now' : Option (List ℕ)) (faults'' : ℕ) → steps.stepped funs depth m ≡ Ok (Says number, next)
        → put ≡ number → now' ≡ append_known now (number_line put) → faults'' ≡ faults' → RunsOn whole next out now' faults faults''
    runs_say next number put now' faults'' e one_number appended counts = record {
      printed = runs.printed ++ number ∷ [];
      stands = runs.stands ∙ tells m runs.printed (Ok (Says number, next)) e;
      fits = (steps_less m next (Says number) runs.fits e).1;
      said = appended ∙ ap (λ n. append_known now (number_line n)) one_number ∙ ap (λ told. append_known told (number_line number)) runs.said
          ∙ append_known-twice out (number_lines runs.printed) (number_line number) ∙ ap (append_known out) (sym (lines_one_more runs.printed number));
      counted = counts ∙ runs.counted;
    }

    -- a part of the line of the number that was printed
    pub runs_cut : (next : Machine) (number put : ℤ) (now' : Option (List ℕ)) (faults'' : ℕ) → steps.stepped funs depth m ≡ Ok (Says number, next) → put ≡ number
        → AppendsPrefix now now' (number_line put) → Rose faults' faults'' → faults' ≤ faults'' → Evaluated None (outcome_of whole) out now' faults faults'' (Err error.WriteFault)
    runs_cut next number put now' faults'' e one_number part rose kept =
        let all = runs.printed ++ number ∷ [] in
        let fits = (steps_less m next (Says number) runs.fits e).1 in
        let b = grows (all_bodies funs) (bodies_fit funs) next all fits in
        let stands = runs.stands ∙ tells m runs.printed (Ok (Says number, next)) e in
        let printed : (outcome_of whole).printed ≡ all ++ b.0 = ap (λ (a : Answer (Unit {0}) Value). (outcome_of a).printed) stands ∙ b.1 in
        let lines : number_lines (outcome_of whole).printed ≡ (number_lines runs.printed ++ number_line number) ++ number_lines b.0 =
        ap number_lines printed ∙ lines_append all b.0 ∙ ap (λ front. front ++ number_lines b.0) (lines_one_more runs.printed number) in
        let from : AppendsPrefix (append_known out (number_lines runs.printed)) now' (number_line number) =
        subst (λ told. AppendsPrefix told now' (number_line number)) runs.said (subst (λ n. AppendsPrefix now now' (number_line n)) one_number part) in
        record {
          clean = refl;
          part = subst (AppendsPrefix out now') (sym lines)
              (prefix_within out now' (number_lines runs.printed ++ number_line number) (number_lines b.0)
              (prefix_behind out now' (number_lines runs.printed) (number_line number) from));
          rose = subst (λ f. Rose f faults'') runs.counted rose;
          never_falls = subst (λ f. f ≤ faults'') runs.counted kept;
        }

    -- memory ran out
    pub runs_short : Evaluated None (outcome_of whole) out now faults faults' (Err error.Memory)
    runs_short =
        let b = grows (all_bodies funs) (bodies_fit funs) m runs.printed runs.fits in
        let printed : (outcome_of whole).printed ≡ runs.printed ++ b.0 = ap (λ (a : Answer (Unit {0}) Value). (outcome_of a).printed) runs.stands ∙ b.1 in
        record {
          count = length runs.printed;
          lines = runs.said ∙ ap (λ ns. append_known out (number_lines ns)) (sym (ap (take (length runs.printed)) printed ∙ take_front runs.printed b.0));
          counted = runs.counted;
        }

    pub runs_return : (next : Machine) (word given : ℤ) → steps.stepped funs depth m ≡ Ok (Returns word, next) → given ≡ word
        → Evaluated None (outcome_of whole) out now faults faults' (Ok (end.Returned given))
    runs_return next word given e same =
        let told = tells m runs.printed (Ok (Returns word, next)) e in
        let is = ap (λ (a : Answer (Unit {0}) Value). outcome_of a) (runs.stands ∙ told.2) in
        record {
          clean = refl;
          how = ap (λ (o : Outcome). o.how) is ∙ ap (λ w. hows.Returned w) (told.3 ∙ sym same);
          lines = runs.said ∙ ap (λ ns. append_known out (number_lines ns)) (sym (ap (λ (o : Outcome). o.printed) is ∙ told.4));
          counted = runs.counted;
        }

    ends : (how : How) → steps.stepped funs depth m ≡ Err how → outcome_of whole ≡ record { printed = runs.printed; how = how }
    ends how e =
        let told = tells m runs.printed (Err how) e in
        ap (λ (a : Answer (Unit {0}) Value). outcome_of a) (runs.stands ∙ told.1) ∙ ap (λ ns. let o : Outcome = record { printed = ns; how = how } in o) told.2

    pub not_stuck : (stop : Halt) → (outcome_of whole).how ≢ Stuck → Fails stop (steps.stepped funs depth m) → stop ≢ halt.Stuck
    not_stuck halt.NoStore safe e same = absurd (let bad : ⊥ = cc in bad)
    not_stuck halt.Overflow safe e same = absurd (let bad : ⊥ = cc in bad)
    not_stuck halt.FuelEnded safe e same = absurd (let bad : ⊥ = cc in bad)
    not_stuck halt.Memory safe e same = absurd (let bad : ⊥ = cc in bad)
    not_stuck halt.Stuck safe e same = safe (ap (λ (o : Outcome). o.how) (ends Stuck e))

    ended : (e : SourceEnd) → outcome_of whole ≡ record { printed = runs.printed; how = how_of e } → Evaluated None (outcome_of whole) out now faults faults' (Ok e)
    ended e is = record {
      clean = refl;
      how = ap (λ (o : Outcome). o.how) is;
      lines = runs.said ∙ ap (λ (o : Outcome). append_known out (number_lines o.printed)) (sym is);
      counted = runs.counted;
    }

    pub runs_end : (stop : Halt) → stop ≢ halt.Stuck → Fails stop (steps.stepped funs depth m) → Evaluated None (outcome_of whole) out now faults faults' (answer_of stop)
    runs_end halt.NoStore well e = ended end.NoStore (ends hows.NoStore e)
    runs_end halt.Overflow well e = ended end.Overflow (ends hows.Overflow e)
    runs_end halt.FuelEnded well e = ended end.FuelEnded (ends hows.Running e)
    runs_end halt.Memory well e = runs_short
    runs_end halt.Stuck well e = absurd (well refl)
