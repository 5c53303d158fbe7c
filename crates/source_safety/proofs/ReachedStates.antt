-- A run stands at each statement that it reaches as elaboration says: what is recorded there says so of it.
use Rattle.std.proofs.Common.{◌≡◌, ◌∙◌, inl, inr, ℕ, zero, suc, ℤ, List, [], ◌∷◌, map, length, nat_lt, Bool as Truth, true, false, Option, Some, None, Ok, refl, sym, ap, subst, eq-eqb}
use Rattle.std.specs.Prelude.{slice_get}
use Rattle.std.specs.List.{All}
use Rattle.std.proofs.lemmas.List.Elements.{All-nil, All-cons}
use Rattle.std.proofs.lemmas.Option.{same_Some}
use Rattle.index_sorts.specs.Entails.{AllHold}
use Rattle.xan_io.specs.declared.arg.Arg.{Arg}
use Rattle.state_types.specs.declared.closed.Signature.{Signature}
use Rattle.operation_rules.specs.Entry.{placed}
use Rattle.xanadu_tree.specs.Plain as core
use Rattle.xanadu_tree.specs.Shaped as shaped
use Rattle.xanadu_tree.specs.Shaped.{Shaped}
use Rattle.typed_core.specs.Goals.{Elaboration, elaborated}
use Rattle.typed_core.specs.Meaning.{source_fault, tag_of, main_body, started, first_run, placed_in, source_run}
use Rattle.typed_core.specs.Reached.{StandsIn, StandsWithin, IsBefore}
use Rattle.typed_core.specs.SourceCalls.{env_of, result, body_if, body, begun, called}
use Rattle.typed_core.specs.SourceOperands.{no_cells}
use Rattle.typed_core.specs.SourceRuns.{Run, Env, Place, Recorder, Flow, Next, Gives as Returns}
use Rattle.typed_core.specs.SourceStatements as source
use Rattle.typed_core.specs.SourceValues.{Value, Blocks, with_tags, separate}
use Rattle.typed_core.specs.States.{Site, State}
use Rattle.typed_core.proofs.Continued.{either}
use Rattle.typed_core.proofs.FunctionsFound.{function_segment}
use Rattle.source_safety.specs.Values.{headers_of, HaveValues, StoreHolds}
use Rattle.source_safety.specs.Recorded.{Reach, every_statement, log_of, StandsAt, StandsInside, site_of, IsReached}
use Rattle.source_safety.specs.Standing.{GoalsHold}
use Rattle.source_safety.proofs.BodiesStart.{setting_in, IsBody, Begins, body_of, function_of, as_many, start_wide, start_stands}
use Rattle.source_safety.proofs.CalledFare.{called_fares}
use Rattle.source_safety.proofs.Demanded.{goals_before}
use Rattle.source_safety.proofs.EntryFits.{empty_store}
use Rattle.source_safety.proofs.ExpressionLogs.{CallsKeep}
use Rattle.source_safety.proofs.LogsKept.{Logs, logs_next, paid_logs}
use Rattle.source_safety.proofs.NeverStuck.{main_body_of, begins_with}
use Rattle.source_safety.proofs.StatementLogs.{block_logs}

-- ---- what is recorded keeps what holds of the log

-- where the run stands as elaboration says
pub record KeepsReached {L : Type 0} (K : L → Type 0) (recorder : Recorder L) (program : core.Program) (made : Elaboration) : Type 0 where
  pub by : (fun : ℕ) (place : Place) (env : Env) (store : Blocks) (log : L) → IsReached program made (record { fun = fun; place = place; env = env; store = store }) → K log
      → K (recorder fun place env store log)

module _ {L : Type 0} (K : L → Type 0) (recorder : Recorder L) (program : core.Program) (made : Elaboration) (keeps : KeepsReached K recorder program made) (goals : GoalsHold made.goals)
    (shape : Shaped program) (is : elaborated program ≡ Ok made) where
  result_logs : (flow : Flow) (run : Run L) → K run.log → Logs K (result flow run)
  result_logs (Next env) run k = record { is = k }
  result_logs (Returns v) run k = record { is = k }

  -- ---- bodies

  module _ (depth : ℕ) where
    body_logs : (fun : ℕ) (f : core.Fun) → slice_get program.funs fun ≡ Some f → (b : IsBody program made fun f) (calls_bound live : ℕ)
        → CallsKeep K made.table made.sigs (called recorder program.funs depth calls_bound live) → (bound : ℕ) (values : List ℤ) (vs : List Value) (run : Run L)
        → Begins program made fun f b values vs run.store → K run.log → Logs K (body recorder (called recorder program.funs depth calls_bound live) fun bound f vs run)
    unfolding body
    body_logs fun f there b calls_bound live kept bound values vs run s k =
        let call = called recorder program.funs depth calls_bound live in
        let site = site_of made fun b.segment.own in
        let env = env_of f vs in
        let hold = goals_before b.segment.end.goals made.goals b.segment.later_goals goals in
        let many = as_many program made fun f b values vs run.store s in
        let wide = start_wide program made fun f b values vs run.store s in
        let stands = start_stands program made fun f b values vs run.store s in
        subst (λ c. Logs K (body_if recorder c call fun bound f vs run)) (sym (eq-eqb (length vs) (length f.params) many))
        (logs_next (source.block recorder call fun bound [] 0 f.body env run) _
        (block_logs K (setting_in program f) site b.suits b.sound recorder call (called_fares recorder program made goals shape is depth calls_bound live) kept fun
        (λ place reached there. StandsAt site [] 0 f.body b.segment.start place reached there)
        (record {
          by = λ place reached there env assignment store log root at k.
              keeps.by fun place env store log (record { f = f; function = there_is; segment = b.segment; reached = reached; there = there; place = root; assignment = assignment; stands = at }) k;
        })
        f.body (shaped.body_start f) b.rules.end b.segment.start b.segment.end bound [] 0 env values run b.rules.body b.here b.segment.body hold stands wide
        (record { by = λ place reached there h. h }) k)
        (λ p l. result_logs p.0 p.1 l))
      where
        there_is : slice_get program.funs fun ≡ Some f
        there_is = there

    -- ---- calls

    begun_logs : (room : Truth) (bound live : ℕ) → CallsKeep K made.table made.sigs (called recorder program.funs depth bound live) → (fun : ℕ) (sig : Signature) (f : core.Fun)
        → slice_get program.funs fun ≡ Some f → slice_get made.sigs fun ≡ Some sig → (values : List ℤ) (vs : List Value) (run : Run L) → length values ≡ sig.vars → AllHold values sig.rows
        → HaveValues (headers_of run.store) values vs sig.params → StoreHolds made.table run.store → K run.log
        → Logs K (begun recorder program.funs depth room (called recorder program.funs depth bound live) fun bound (Some f) vs run)
    begun_logs false bound live kept fun sig f there signed values vs run one_each hold have holds k = record { is = k }
    begun_logs true bound live kept fun sig f there signed values vs run one_each hold have holds k =
        let b = body_of program made shape is fun f there in
        let same : sig ≡ b.segment.own = same_Some sig b.segment.own (sym signed ∙ b.segment.signature) in
        paid_logs K run _ k (λ units. body_logs fun f there b bound live kept bound values vs (record run { units = units }) (record {
          one_each = one_each ∙ ap (λ s. s.vars) same;
          hold = subst (λ s. AllHold values s.rows) same hold;
          have = subst (λ s. HaveValues (headers_of run.store) values vs s.params) same have;
          holds = holds;
        }) k)

    called_logs : (bound live : ℕ) → CallsKeep K made.table made.sigs (called recorder program.funs depth bound live)
    unfolding called
    called_logs zero live = record { by = λ fun sig values vs run there one_each hold have holds k. record { is = k } }
    called_logs (suc bound) live = record {
      by = λ fun sig values vs run there one_each hold have holds k.
          let found = function_of program made fun sig (function_segment program made program.main shape.main_function is shape.main_number).headers there in
          subst (λ o. Logs K (begun recorder program.funs depth (nat_lt live depth) (called recorder program.funs depth bound (suc live)) fun bound o vs run)) (sym found.there)
          (begun_logs (nat_lt live depth) bound (suc live) (called_logs bound (suc live)) fun sig found.value found.there there values vs run one_each hold have holds k);
    }

  -- ---- runs

  module _ (log : L) (args : List Arg) (fault : source_fault program args ≡ None) (bound heap depth fuel : ℕ) (k : K log) where
    main_logs : (words : List ℤ) (new : Blocks) → placed (separate no_cells) args (empty_store heap) ≡ Some (words, new)
        → Logs K (main_body recorder program.funs depth program.main bound (slice_get program.funs program.main) (with_tags (map tag_of args) words) (record (first_run heap fuel log) { store = new }))
    main_logs words new e =
        let b = main_body_of program made shape is args fault heap words new e in
        let run : Run L = record (first_run heap fuel log) { store = new } in
        subst (λ o. Logs K (main_body recorder program.funs depth program.main bound o (with_tags (map tag_of args) words) run)) (sym shape.main_number)
        (body_logs depth program.main shape.main_function shape.main_number b bound 1 (called_logs depth bound 1) bound _ (with_tags (map tag_of args) words) run
        (begins_with program made shape is args fault heap words new e) k)

    started_logs : (live : ℕ) (first : Option (List ℤ × Blocks)) → placed (separate no_cells) args (empty_store heap) ≡ first
        → Logs K (started recorder program.funs depth program.main bound live (placed_in args (first_run heap fuel log) first) (first_run heap fuel log))
    started_logs zero first e = record { is = k }
    started_logs (suc live) None e = record { is = k }
    started_logs (suc live) (Some p) e = main_logs p.0 p.1 e

    pub run_logs : Logs K (source_run recorder log bound program args heap depth fuel)
    run_logs = started_logs depth (placed (separate no_cells) args (empty_store heap)) refl

-- ---- each statement that is reached

pub all_reached : (program : core.Program) (made : Elaboration) (args : List Arg) (bound heap depth fuel : ℕ) → Shaped program → elaborated program ≡ Ok made → GoalsHold made.goals
    → source_fault program args ≡ None → All (IsReached program made) (log_of (source_run every_statement [] bound program args heap depth fuel))
all_reached program made args bound heap depth fuel shape is goals fault =
    (run_logs (All (IsReached program made)) every_statement program made
    (record { by = λ fun place env store log reached all. All-cons (IsReached program made) (record { fun = fun; place = place; env = env; store = store }) log reached all }) goals shape is
    [] args fault bound heap depth fuel (All-nil (IsReached program made))).is

-- ---- a statement of a place is one of the function

module _ (site : Site) where
  mutual
    unfolding StandsAt StandsIn

    placed_in_block : (outer : Place) (number : ℕ) (ss : core.Stmts) (st : State) (place : Place) (reached : core.Stmt) (there : State) → StandsAt site outer number ss st place reached there
        → StandsIn site ss st reached there
    placed_in_block outer number core.NoStmt st place reached there is = absurd is
    placed_in_block outer number (core.AStmt s ss) st place reached there (inl is) = inl (is.1, is.2)
    placed_in_block outer number (core.AStmt s ss) st place reached there (inr (inl is)) = inr (inl (placed_inside (number ∷ outer) s st place reached there is))
    placed_in_block outer number (core.AStmt s ss) st place reached there (inr (inr is)) = inr (inr (is.0, is.1, placed_in_block outer (suc number) ss is.0 place reached there is.2))

    placed_inside : (own : Place) (s : core.Stmt) (st : State) (place : Place) (reached : core.Stmt) (there : State) → StandsInside site own s st place reached there
        → StandsWithin site s st reached there
    placed_inside own (core.Set x e) st place reached there is = absurd is
    placed_inside own (core.Split xs e at) st place reached there is = absurd is
    placed_inside own (core.Store array index e at) st place reached there is = absurd is
    placed_inside own (core.Do call) st place reached there is = absurd is
    placed_inside own (core.Print e) st place reached there is = absurd is
    placed_inside own (core.If test on_true on_false join at) st place reached there is = (
      is.0,
      is.1,
      either is.2 (λ one. inl (placed_in_block (0 ∷ own) 0 on_true _ place reached there one))
          (λ two. inr (two.0, two.1, placed_in_block (1 ∷ own) 0 on_false _ place reached there two.2)),
    )
    placed_inside own (core.While test head body at) st place reached there is =
        (is.0, is.1, is.2, is.3, is.4, is.5, is.6, placed_in_block (0 ∷ own) 0 body _ place reached there is.7)
    placed_inside own (core.Return value at) st place reached there is = absurd is

pub reached_is_before : (program : core.Program) (made : Elaboration) (reach : Reach) (it : IsReached program made reach) → IsBefore program reach.fun it.reached it.there
reached_is_before program made reach it = record {
  table = made.table;
  sigs = made.sigs;
  f = it.f;
  own = it.segment.own;
  goals = it.segment.goals;
  notes = it.segment.notes;
  start = it.segment.start;
  types = it.segment.types;
  headers = it.segment.headers;
  function = it.function;
  signature = it.segment.signature;
  begins = it.segment.begins;
  stands = placed_in_block (site_of made reach.fun it.segment.own) [] 0 it.f.body it.segment.start reach.place it.reached it.there it.place;
}
