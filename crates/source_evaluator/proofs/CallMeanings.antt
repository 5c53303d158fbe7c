-- Calls, prints and returns, and any step: it changes nothing of what a machine comes to.
use Rattle.std.proofs.Common.{◌≡◌, ◌∙◌, ◌++◌, ℕ, zero, suc, ℤ, Bool as Truth, true, false, List, [], ◌∷◌, length, nat_lt, Option, Some, None, Ok, Err, refl, sym, ap}
use Rattle.std.specs.Prelude.{slice_get, ◌==◌}
use Rattle.xan_seq.specs.Answers.{◌>>=◌}
use Rattle.xan_io.specs.Outcome.{How, NoStore, Stuck, Running}
use Rattle.xanadu_tree.specs.Plain as core
use Rattle.typed_core.specs.Meaning.{no_log}
use Rattle.typed_core.specs.SourceValues.{Number, Value, Blocks}
use Rattle.typed_core.specs.SourceRuns.{Run, Answer, Env, Flow, Next, Gives, spent}
use Rattle.typed_core.specs.SourceStatements.{behind}
use Rattle.typed_core.specs.SourceCalls.{body, body_if, env_of, result}
use Rattle.typed_core.specs.SourceFreely.{free_body, free_call, freely_begun, freely_called}
use Rattle.typed_core.proofs.FreeBounds.{call_free}
use Rattle.source_values.specs.Values as values
use Rattle.source_values.specs.Values.{Ending}
use Rattle.source_evaluator.specs.Steps as steps
use Rattle.source_evaluator.specs.Steps.{Machine, Event, Goes, Says, Returns, doing, is_back, unwound, with_values}
use Rattle.source_evaluator.specs.Work.{Work, Operand, Operands, Links, Join, Negate, Relate, ReadCell, Measure, MakeTuple, MakeArray, CallWith, Decide, Decided, AllParts, AnyParts, WhereTrue, WhereFalse, Opposite, Statements, SetTo, SplitTo, PutCell, Forget, Say, Choose, Loop, Turn, GiveBack, Back}
use Rattle.source_evaluator.specs.Pending.{R, Tells, after, by_flow, calls, first_machine, given, meaning, meant, run_of, say, statements, working}
use Rattle.source_evaluator.proofs.PlacesSame.{block_same}
use Rattle.source_evaluator.proofs.StatementMeanings.{block_follows, choice_follows, loop_follows, set_follows, split_follows, turn_follows}
use Rattle.source_evaluator.proofs.StepMeanings.{Follows, act_follows, bind_same, after_then, all_follow, allocation_follows, any_follow, in_turn, links_follow, operand_follows, operands_follow, test_follows, where_false_follows, where_true_follows}

module _ (funs : List core.Fun) (depth : ℕ) where
  -- the function's value goes to its caller
  returned : (flow : Flow) (ws : List Work) (vs : List Value) (env : Env) (cs : List Env) (st : R)
      → (result flow st >>= λ a. working funs depth ws (a.0 ∷ vs) env cs a.1)
      ≡ by_flow (λ more st. working funs depth (Back ∷ ws) vs more (env ∷ cs) st) (λ v st. given funs depth (Back ∷ ws) v vs (env ∷ cs) st) flow st
  unfolding working
  returned (Next more) ws vs env cs st = refl
  returned (Gives v) ws vs env cs st = refl

  -- or it is that of the run
  main_gives : (flow : Flow) (st : R)
      → result flow st ≡ by_flow (λ env st. working funs depth [] [] env [] st) (λ v st. given funs depth [] v [] [] st) flow st
  unfolding working
  main_gives (Next env) st = refl
  main_gives (Gives v) st = refl

  entered : (fit : Truth) (fun : ℕ) (f : core.Fun) (args : List Value) (m : Machine) (p : List ℤ) (vs : List Value)
      → Follows funs depth p (steps.entered_if fit f args (with_values vs m))
      (body_if no_log fit (free_call no_log funs depth (suc (suc (length m.callers)))) fun (suc m.units) f args (run_of funs depth m p)
      >>= λ a. working funs depth m.work (a.0 ∷ vs) m.env m.callers a.1)
  unfolding working
  entered false fun f args m p vs = (run_of funs depth m p, refl, refl)
  entered true fun f args m p vs =
      ap (λ (r : Answer (Unit {0}) Flow). (r >>= λ x. result x.0 x.1) >>= λ a. working funs depth m.work (a.0 ∷ vs) m.env m.callers a.1)
      (block_same (calls funs depth (m.env ∷ m.callers)) fun 0 (suc m.units) [] [] 0 0 f.body (env_of f args) (run_of funs depth m p))
      ∙ in_turn (statements funs depth f.body (env_of f args) (m.env ∷ m.callers) (run_of funs depth m p)) _ _ _
      (λ x. returned x.0 m.work vs m.env m.callers x.1)

  -- the unit that a call takes
  paid : (units : ℕ) (fun : ℕ) (f : core.Fun) (args : List Value) (m : Machine) (p : List ℤ) (vs : List Value)
      → Follows funs depth p (steps.paid units >>= λ u. steps.entered_if (length args == length f.params) f args (steps.with_units u (with_values vs m)))
      ((spent (record (run_of funs depth m p) { units = units }) >>= λ x. free_body no_log funs depth (suc (suc (length m.callers))) fun f args x.1)
      >>= λ a. working funs depth m.work (a.0 ∷ vs) m.env m.callers a.1)
  unfolding spent body
  paid zero fun f args m p vs = (record (run_of funs depth m p) { units = 0 }, refl, refl)
  paid (suc units) fun f args m p vs = entered (length args == length f.params) fun f args (steps.with_units units m) p vs

  begins : (room : Truth) (fun : ℕ) (f : Option core.Fun) (args : List Value) (m : Machine) (p : List ℤ) (vs : List Value)
      → Follows funs depth p (values.or_stuck f (λ f. steps.activated room f args (with_values vs m)))
      (freely_begun no_log funs depth room (suc (length m.callers)) fun f args (run_of funs depth m p) >>= λ a. working funs depth m.work (a.0 ∷ vs) m.env m.callers a.1)
  begins room fun None args m p vs = (run_of funs depth m p, refl, refl)
  begins false fun (Some f) args m p vs = (run_of funs depth m p, refl, refl)
  begins true fun (Some f) args m p vs = paid m.units fun f args m p vs

  carried : (p : List ℤ) (made : Ending Machine) (one other : Answer (Unit {0}) Value) → other ≡ one → Follows funs depth p made one → Follows funs depth p made other
  carried p (Ok m) one other same so = same ∙ so
  carried p (Err how) one other same so = (so.0, same ∙ so.1, so.2)

  pub call_follows : (fun count : ℕ) (m : Machine) (p : List ℤ) → Follows funs depth p (steps.calling funs depth fun count m) (meant funs depth (CallWith fun count) m p)
  unfolding working
  call_follows fun count m p =
      after_then funs depth p (run_of funs depth m p) refl (steps.taken count m.values) _ _
      (λ t. carried p (steps.called funs depth fun t.0 (with_values t.1 m)) _ _
      (ap (λ (r : Answer (Unit {0}) Value). r >>= λ a. working funs depth m.work (a.0 ∷ t.1) m.env m.callers a.1)
      (call_free no_log funs depth (suc (length m.callers)) fun t.0 (run_of funs depth m p)))
      (begins (nat_lt (suc (length m.callers)) depth) fun (slice_get funs fun) t.0 m p t.1))

  -- ---- any step

  goes : (p : List ℤ) (made : Ending Machine) (answer : Answer (Unit {0}) Value) → Follows funs depth p made answer → Tells funs depth p (steps.told Goes made) answer
  goes p (Ok m) answer so = so
  goes p (Err how) answer so = so

  tells_then : {A : Type 0} (p : List ℤ) (st : R) → st.printed ≡ p → (e : Ending A) (f : A → Ending (Event × Machine)) (next : A → R → Answer (Unit {0}) Value)
      → ((x : A) → Tells funs depth p (f x) (next x st)) → Tells funs depth p (e >>= f) (after e next st)
  tells_then p st same (Ok x) f next so = so x
  tells_then p st same (Err how) f next so = (st, refl, same)

  says : (number : Option ℤ) (m : Machine) (p : List ℤ) (vs : List Value)
      → Tells funs depth p (values.or_stuck number (λ n. Ok (Says n, with_values vs m)))
      (after (values.or_stuck number (λ n. Ok n)) (λ n st. working funs depth m.work vs m.env m.callers (say n st)) (run_of funs depth m p))
  says None m p vs = (run_of funs depth m p, refl, refl)
  says (Some n) m p vs = refl

  resumes : (v : Value) (ws : List Work) (vs : List Value) (cs : List Env) (m : Machine) (p : List ℤ)
      → Tells funs depth p (steps.told Goes (steps.resumed v ws cs (with_values vs m))) (given funs depth (Back ∷ ws) v vs cs (run_of funs depth m p))
  unfolding working
  resumes v ws vs [] m p = (run_of funs depth m p, refl, refl)
  resumes v ws vs (env ∷ cs) m p = refl

  gives : (v : Value) (ws : List Work) (vs : List Value) (m : Machine) (p : List ℤ)
      → Tells funs depth p (steps.given v (unwound ws) (with_values vs m)) (given funs depth ws v vs m.callers (run_of funs depth m p))
  unfolding working unwound
  gives v [] vs m p = (v, run_of funs depth m p, refl, refl, refl)
  gives v (Back ∷ ws) vs m p = resumes v ws vs m.callers m p
  gives v (w ∷ ws) vs m p = gives v ws vs m p

  pub done_tells : (w : Work) (m : Machine) (p : List ℤ) → Tells funs depth p (steps.done funs depth w m) (meant funs depth w m p)
  unfolding working steps.done steps.going
  done_tells (Operand e) m p = goes p (steps.evaluated e m) _ (operand_follows funs depth e m p)
  done_tells (Operands es) m p = operands_follow funs depth es m p
  done_tells (Links ls) m p = links_follow funs depth ls m p
  done_tells (Join o) m p = goes p (steps.acting (Join o) m) _ (act_follows funs depth (Join o) m p)
  done_tells Negate m p = goes p (steps.acting Negate m) _ (act_follows funs depth Negate m p)
  done_tells (Relate r) m p = goes p (steps.acting (Relate r) m) _ (act_follows funs depth (Relate r) m p)
  done_tells ReadCell m p = goes p (steps.acting ReadCell m) _ (act_follows funs depth ReadCell m p)
  done_tells Measure m p = goes p (steps.acting Measure m) _ (act_follows funs depth Measure m p)
  done_tells (MakeTuple ty count) m p = goes p (steps.allocating (MakeTuple ty count) m) _ (allocation_follows funs depth (MakeTuple ty count) m p)
  done_tells (MakeArray ty) m p = goes p (steps.allocating (MakeArray ty) m) _ (allocation_follows funs depth (MakeArray ty) m p)
  done_tells (CallWith fun count) m p = goes p (steps.calling funs depth fun count m) _ (call_follows fun count m p)
  done_tells (Decide test) m p = test_follows funs depth test m p
  done_tells Decided m p = goes p (steps.acting Decided m) _ (act_follows funs depth Decided m p)
  done_tells (AllParts ts) m p = all_follow funs depth ts m p
  done_tells (AnyParts ts) m p = any_follow funs depth ts m p
  done_tells (WhereTrue ts) m p = goes p (steps.by_truth m (steps.where_true ts)) _ (where_true_follows funs depth ts m p)
  done_tells (WhereFalse ts) m p = goes p (steps.by_truth m (steps.where_false ts)) _ (where_false_follows funs depth ts m p)
  done_tells Opposite m p = goes p (steps.acting Opposite m) _ (act_follows funs depth Opposite m p)
  done_tells (Statements ss) m p = block_follows funs depth ss m p
  done_tells (SetTo x) m p = goes p (steps.set_to x m) _ (set_follows funs depth x m p)
  done_tells (SplitTo xs) m p = goes p (steps.split_to xs m) _ (split_follows funs depth xs m p)
  done_tells PutCell m p = goes p (steps.allocating PutCell m) _ (allocation_follows funs depth PutCell m p)
  done_tells Forget m p = goes p (steps.acting Forget m) _ (act_follows funs depth Forget m p)
  done_tells Say m p =
      tells_then p (run_of funs depth m p) refl (steps.one_of m.values) _ _ (λ t. says (values.word_in Number t.0) m p t.1)
  done_tells (Choose one two) m p = goes p (steps.by_truth m (steps.chosen one two)) _ (choice_follows funs depth one two m p)
  done_tells (Loop test body) m p = loop_follows funs depth test body m p
  done_tells (Turn test body) m p = goes p (steps.by_truth m (steps.turned test body)) _ (turn_follows funs depth test body m p)
  done_tells GiveBack m p = tells_then p (run_of funs depth m p) refl (steps.one_of m.values) _ _ (λ t. gives t.0 m.work t.1 m p)
  done_tells Back m p = (run_of funs depth m p, refl, refl)

  next_tells : (ws : List Work) (m : Machine) (p : List ℤ)
      → Tells funs depth p (steps.next funs depth ws m) (working funs depth ws m.values m.env m.callers (run_of funs depth m p))
  unfolding working
  next_tells [] m p = (run_of funs depth m p, refl, refl)
  next_tells (w ∷ ws) m p = done_tells w (record m { work = ws }) p

  -- a step tells what the machine comes to
  pub step_tells : (m : Machine) (p : List ℤ) → Tells funs depth p (steps.stepped funs depth m) (meaning funs depth m p)
  step_tells m p = next_tells m.work m p

  -- the body of `main` is what the first machine comes to
  pub main_begins : (main : ℕ) (f : core.Fun) (values : List Value) (st : R) → (length values == length f.params) ≡ true
      → free_body no_log funs depth 1 main f values st ≡ meaning funs depth (first_machine f values st) st.printed
  unfolding working body
  main_begins main f values st fit =
      ap (λ (b : Truth). body_if no_log b (free_call no_log funs depth 1) main (suc st.units) f values st) fit
      ∙ ap (λ (r : Answer (Unit {0}) Flow). r >>= λ x. result x.0 x.1) (block_same (calls funs depth []) main 0 (suc st.units) [] [] 0 0 f.body (env_of f values) st)
      ∙ bind_same (statements funs depth f.body (env_of f values) [] st) _ _ (λ x. main_gives x.0 x.1)
