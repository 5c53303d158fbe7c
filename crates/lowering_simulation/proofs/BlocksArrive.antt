-- Blocks, branches and loops: by one recursion over statements, and by induction on the bound for the turns of a loop.
use Rattle.std.proofs.Common.{◌≡◌, ◌⊎◌, inl, inr, ◌∙◌, ℕ, zero, suc, ◌+◌, ◌≤◌, ℤ, List, [], ◌∷◌, ◌++◌, length, slice_get, Bool as Flag, true, false, ◌||◌, Option, Some, refl, sym, ap, subst, arith}
use Rattle.xan_io.specs.Outcome.{Running}
use Rattle.xan_seq.specs.Answers.{◌>>=◌}
use Rattle.operation_rules.specs.FlatWords.{Flat}
use Rattle.three_address.specs.declared.function.LowFun.{LowFun}
use Rattle.three_address.specs.declared.instruction.LowInstr.{LowInstr}
use Rattle.xanadu_tree.specs.declared.stmt.Clause.{Clause}
use Rattle.xanadu_tree.specs.declared.types.Kind.TheVariants as kind
use Rattle.xanadu_tree.specs.BodyRules.{Point, behind_block, completes as may_complete, completes_all, IsStatement, AreStatements}
use Rattle.xanadu_tree.specs.KindRules.{Setting, IsTest}
use Rattle.xanadu_tree.specs.Plain as core
use Rattle.typed_core.specs.SourceRuns.{Run, Answer, Env, Place, Recorder, Calls, Flow, Next, Gives, spent, units_taken}
use Rattle.typed_core.specs.SourceStatements.{reached, behind, one_of_two, turned, turns, statement, block}
use Rattle.typed_core.specs.SourceTests.{holds}
use Rattle.value_lowering.specs.Frames.{Frame}
use Rattle.value_lowering.specs.OneInstruction.{jump, one_if, jump_if}
use Rattle.lowering.specs.StatementCode.{jumps, statement_size, block_size, first_at, second_at, meet_at, behind_loop, unless, statement_code, block_code}
use Rattle.lowering.specs.TestCode.{test_code}
use Rattle.lowering.proofs.CodeSizes.{test_long, long_jump, statement_long, block_long}
use Rattle.lowering_simulation.proofs.BranchSteps.{Tested, jump_comes}
use Rattle.lowering_simulation.proofs.CodeStands.{IsCode, Here, Stands, config, stands_front, stands_behind, stands_first, stands_rest}
use Rattle.lowering_simulation.proofs.RunsAhead.{Config, Comes, Arrived, Arrives, comes_none, comes_with, finishes_running, finishes_later, arrives_there, arrives_end, arrives_later, arrives_then, arrives_on, arrives_as, arrives_paying}
use Rattle.lowering_simulation.proofs.StatementSteps.{Flowed}
use Rattle.lowering_simulation.proofs.StepsMade.{CallsGo, comes_free}
use Rattle.lowering_simulation.proofs.StoresHold.{StoreHolds, PlacesHold, sizes}
use Rattle.lowering_simulation.proofs.TestsArrive.{test_goes}
use Rattle.lowering_simulation.proofs.StatementsArrive.{either_first, either_second, flow_within, gives_same, block_after, set_goes, do_goes, print_goes, split_goes, store_goes, return_goes}

-- ---- blocks within statements

module _ {L : Type 0} (funs : List LowFun) (here : Here) (code : List LowInstr) (is : IsCode funs here.fun code) (base : List ℕ) (frame : Frame) (call : Calls L)
    (bound_of_calls : ℕ) (calls : CallsGo funs here.depth call (suc (length here.callers)) bound_of_calls) (set : Setting) (recorder : Recorder L) (fun : ℕ) where
  -- A block and its code, under any bound that is greater than the units.
  pub record BlockGoes (ss : core.Stmts) : Type 0 where
    pub by : (bound limit : ℕ) → limit ≤ bound → limit ≤ bound_of_calls → (place : Place) (number : ℕ) (env : Env) → length env ≡ length frame.kinds
        → (at next : ℕ) (st : Run L) (flat : Flat) (regs : List ℤ) → Stands code at (block_code frame ss at) → next ≡ at + block_size ss
        → StoreHolds base limit st flat → PlacesHold (sizes st) env regs
        → Arrives funs st.units (config here st.printed flat at regs) (Flowed here base limit code (length frame.kinds) (completes_all ss) next)
        (block recorder call fun bound place number ss env st)

  -- ---- branches

  module _ (on_true on_false : core.Stmts) (join : Option Clause) (limit past : ℕ) where
    abbrev After : Flow → Run L → Config → Type 0
    After flow st c = Flowed here base limit code (length frame.kinds) (completes_all on_true || completes_all on_false) past flow st c

    -- behind a branch stands a jump to where branches meet, or nothing
    meets : (can : Flag) (end : ℕ) (jumping : Flag) → (can ≡ true → (completes_all on_true || completes_all on_false) ≡ true)
        → (can ≡ true → (jumping ≡ true) ⊎ (end ≡ past)) → Stands code end (jump_if jumping past)
        → (flow : Flow) (st : Run L) (c : Config) → Flowed here base limit code (length frame.kinds) can end flow st c → Arrived funs st.units c After flow st
    meets can end jumping may leads stands (Gives v) st c f = record {
      config = c;
      comes = comes_none funs st.units c;
      is = gives_same here base code limit (length frame.kinds) can _ end past v st c f;
    }
    meets can end jumping may leads stands (Next env) st c f =
        let r = f.flow_is in
        by (leads r.can_complete) stands
      where
        by : (jumping ≡ true) ⊎ (end ≡ past) → Stands code end (jump_if jumping past) → Arrived funs st.units c After (Next env) st
        by (inl e) s =
            let r = f.flow_is in
            let there = stands_first code end (jump past) [] (subst (λ b. Stands code end (jump_if b past)) e s) in
            record {
              config = config here st.printed r.flat past r.regs;
              comes = subst (λ x. Comes funs st.units st.units x (config here st.printed r.flat past r.regs)) (sym r.is)
                  (comes_free funs st.units _ _ (jump_comes funs here code is st.printed r.flat end r.regs st.units past there));
              is = record {
                flow_is = record {
                  flat = r.flat;
                  regs = r.regs;
                  is = refl;
                  store = r.store;
                  places = r.places;
                  sized = r.sized;
                  can_complete = may r.can_complete;
                };
              };
            }
        by (inr e) s =
            let r = f.flow_is in
            record {
              config = c;
              comes = comes_none funs st.units c;
              is = record {
                flow_is = record {
                  flat = r.flat;
                  regs = r.regs;
                  is = r.is ∙ ap (λ k. config here st.printed r.flat k r.regs) e;
                  store = r.store;
                  places = r.places;
                  sized = r.sized;
                  can_complete = may r.can_complete;
                };
              };
            }

  same_end : (jumping : Flag) (end past : ℕ) → past ≡ end + one_if jumping → (jumping ≡ true) ⊎ (end ≡ past)
  same_end true end past e = inl refl
  same_end false end past e = inr (omega (arith, e))

  if_goes : (visible : List ℕ) (test : core.Test) (on_true on_false : core.Stmts) (join : Option Clause) (a : ℕ) → IsTest set visible test → BlockGoes on_true → BlockGoes on_false
      → (bound limit : ℕ) → limit ≤ bound → limit ≤ bound_of_calls → (place : Place) (env : Env) → length env ≡ length frame.kinds
      → (at next : ℕ) (st : Run L) (flat : Flat) (regs : List ℤ) → Stands code at (statement_code frame (core.If test on_true on_false join a) at)
      → next ≡ at + statement_size (core.If test on_true on_false join a) → StoreHolds base limit st flat → PlacesHold (sizes st) env regs
      → Arrives funs st.units (config here st.printed flat at regs) (Flowed here base limit code (length frame.kinds) (completes_all on_true || completes_all on_false) next)
      (statement recorder call fun bound place (core.If test on_true on_false join a) env st)
  unfolding statement statement_code statement_size
  if_goes visible test on_true on_false join a h first_goes second_goes bound limit le few place env sized at next st flat regs stands n store places =
      let vars = length frame.kinds in
      let first = first_at test at in
      let second = second_at test on_true at in
      let past = meet_at test on_true on_false join at in
      let aim = unless second in
      let T = test_code vars aim test at in
      let A = block_code frame on_true first in
      let J = jump_if (completes_all on_true) past in
      let B = block_code frame on_false second in
      let K = jump_if (jumps on_true on_false join) past in
      let end_first = first + block_size on_true in
      let end_second = second + block_size on_false in
      let long_T = (test_long vars aim test at).is in
      let long_A = (block_long frame on_true first).is in
      let long_J = (long_jump (completes_all on_true) past).is in
      let long_B = (block_long frame on_false second).is in
      let at_first = stands_behind code at first T (A ++ (J ++ (B ++ K))) (ap (λ k. at + k) (sym long_T)) stands in
      let at_end_first = stands_behind code first end_first A (J ++ (B ++ K)) (ap (λ k. first + k) (sym long_A)) at_first in
      let at_second = stands_behind code end_first second J (B ++ K) (ap (λ k. end_first + k) (sym long_J)) at_end_first in
      let at_end_second = stands_behind code second end_second B K (ap (λ k. second + k) (sym long_B)) at_second in
      let same : past ≡ next = omega (arith, n) in
      let S = Flowed here base limit code vars (completes_all on_true || completes_all on_false) past in
      subst (λ m. Arrives funs st.units (config here st.printed flat at regs) (Flowed here base limit code vars (completes_all on_true || completes_all on_false) m)
      (statement recorder call fun bound place (core.If test on_true on_false join a) env st)) same
      (arrives_then funs st.units _ (Tested here base limit env aim first) S _ _
      (test_goes funs here code is base limit vars call env bound_of_calls calls few set visible sized test h aim at first st flat regs (stands_front code at T _ stands) refl store places)
      (λ truth one c r. elim truth as (λ b. Tested here base limit env aim first b one c
      → Arrives funs one.units c S (one_of_two b (λ st. block recorder call fun bound (0 ∷ place) 0 on_true env st) (λ st. block recorder call fun bound (1 ∷ place) 0 on_false env st) one)) [
        | true ↦ λ q.
            subst (λ x. Arrives funs one.units x S (block recorder call fun bound (0 ∷ place) 0 on_true env one)) (sym q.is)
            (arrives_on funs one.units _ (Flowed here base limit code vars (completes_all on_true) end_first) S _
            (meets on_true on_false join limit past (completes_all on_true) end_first (completes_all on_true) (either_first (completes_all on_true) (completes_all on_false)) (λ e. inl e)
            (stands_front code end_first J _ at_end_first))
            (first_goes.by bound limit le few (0 ∷ place) 0 env sized first end_first one q.flat q.regs (stands_front code first A _ at_first) refl q.store q.places))
        | false ↦ λ q.
            subst (λ x. Arrives funs one.units x S (block recorder call fun bound (1 ∷ place) 0 on_false env one)) (sym q.is)
            (arrives_on funs one.units _ (Flowed here base limit code vars (completes_all on_false) end_second) S _
            (meets on_true on_false join limit past (completes_all on_false) end_second (jumps on_true on_false join) (either_second (completes_all on_true) (completes_all on_false))
            (λ e. same_end (jumps on_true on_false join) end_second past refl) at_end_second)
            (second_goes.by bound limit le few (1 ∷ place) 0 env sized second end_second one q.flat q.regs (stands_front code second B _ at_second) refl q.store q.places))
      ] r))

  -- ---- loops

  module _ (visible : List ℕ) (test : core.Test) (body : core.Stmts) (at : ℕ) (place : Place) (h : IsTest set visible test) (body_goes : BlockGoes body)
      (test_there : Stands code (suc at) (test_code (length frame.kinds) (unless (behind_loop test body at)) test (suc at)))
      (body_there : Stands code (first_at test (suc at)) (block_code frame body (first_at test (suc at))))
      (jump_there : Stands code (first_at test (suc at) + block_size body) (jump_if (completes_all body) (suc at))) where
    abbrev past : ℕ
    past = behind_loop test body at

    abbrev first : ℕ
    first = first_at test (suc at)

    abbrev end : ℕ
    end = first + block_size body

    abbrev tests : Env → Run L → Answer L Flag
    tests env st = holds call env test st

    abbrev bodies : (bound : ℕ) → Env → Run L → Answer L Flow
    bodies bound env st = block recorder call fun bound (0 ∷ place) 0 body env st

    abbrev Behind : (limit : ℕ) → Flow → Run L → Config → Type 0
    Behind limit flow st c = Flowed here base limit code (length frame.kinds) true past flow st c

    -- Behind a jump to the head a step is to spare, which pays for the unit of the turn.
    record TurnsGo (bound : ℕ) : Type 0 where
      by : (limit : ℕ) → limit ≤ bound → limit ≤ bound_of_calls → (env : Env) → length env ≡ length frame.kinds → (from : ℕ) (st : Run L) (flat : Flat) (regs : List ℤ)
          → slice_get code from ≡ Some (jump (suc at)) → StoreHolds base limit st flat → PlacesHold (sizes st) env regs
          → Arrives funs st.units (config here st.printed flat from regs) (Behind limit) (turns tests bodies bound env st)

    module _ (b : ℕ) (later : TurnsGo b) (limit : ℕ) (le : limit ≤ suc b) (few : limit ≤ bound_of_calls) (env : Env) (sized : length env ≡ length frame.kinds) where
      -- the body, and then the loop again
      again : (one : Run L) (u : ℕ) → one.units ≡ suc u → (q_flat : Flat) (q_regs : List ℤ) → StoreHolds base limit one q_flat → PlacesHold (sizes one) env q_regs
          → Arrives funs u (config here one.printed q_flat first q_regs) (Behind limit)
          (bodies b env (record one { units = u }) >>= λ p. behind p.0 (turns tests bodies b) p.1)
      again one u e q_flat q_regs store_one places_one =
          let two : Run L = record one { units = u } in
          let lt = store_one.below in
          let within : suc u ≤ limit = omega (arith, lt, e) in
          let fits : suc u ≤ b = omega (arith, lt, e, le) in
          let enough : suc u ≤ bound_of_calls = omega (arith, within, few) in
          arrives_then funs u _ (Flowed here base (suc u) code (length frame.kinds) (completes_all body) end) (Behind limit) _ _
          (body_goes.by b (suc u) fits enough (0 ∷ place) 0 env sized first end two q_flat q_regs body_there refl
          (record { is = store_one.is; more = store_one.more; below = omega arith }) places_one)
          (λ flow three c f. elim flow as (λ x. Flowed here base (suc u) code (length frame.kinds) (completes_all body) end x three c
          → Arrives funs three.units c (Behind limit) (behind x (turns tests bodies b) three)) [
            | Next env3 ↦ λ g.
                let r = g.flow_is in
                let there_again = stands_first code end (jump (suc at)) [] (subst (λ t. Stands code end (jump_if t (suc at))) r.can_complete jump_there) in
                subst (λ x. Arrives funs three.units x (Behind limit) (turns tests bodies b env3 three)) (sym r.is)
                (arrives_as funs three.units _ (Behind (suc u)) (Behind limit) _ (flow_within here base code (suc u) limit (length frame.kinds) true past within)
                (later.by (suc u) fits enough env3 r.sized end three r.flat r.regs there_again r.store r.places))
            | Gives v ↦ λ g.
                arrives_there funs three.units c _ (Gives v) three c (comes_none funs three.units c)
                (flow_within here base code (suc u) limit (length frame.kinds) true past within (Gives v) three c
                (gives_same here base code (suc u) (length frame.kinds) (completes_all body) true end past v three c g))
          ] f)

      -- a unit is taken, or none is left
      pays : (n : ℕ) (a : Config) (one : Run L) (c : Config) → Comes funs (suc n) one.units a c → Tested here base limit env (unless past) first true one c → (units : ℕ) → one.units ≡ units
          → Arrives funs n a (Behind limit) (units_taken units one >>= λ paid. bodies b env paid.1 >>= λ p. behind p.0 (turns tests bodies b) p.1)
      pays n a one c comes q zero e =
          arrives_end funs n a _ Running one
          (λ not_stuck.
          finishes_later funs n 0 a (config here one.printed q.flat first q.regs) _
          (subst (λ x. Comes funs n 0 a x) q.is (comes_with funs (suc n) one.units n 0 a c (omega (arith, e)) comes))
          (finishes_running funs (config here one.printed q.flat first q.regs)))
      pays n a one c comes q (suc u) e =
          arrives_later funs n u a (config here one.printed q.flat first q.regs) _ _
          (subst (λ x. Comes funs n u a x) q.is (comes_with funs (suc n) one.units n u a c (omega (arith, e)) comes))
          (again one u e q.flat q.regs q.store q.places)

    turns_go : (bound : ℕ) → TurnsGo bound
    unfolding turns spent
    turns_go zero = record { by = λ limit le few env sized from st flat regs there store places. absurd (let lt = store.below in omega (arith, lt, le)) }
    turns_go (suc b) = record {
      by = λ limit le few env sized from st flat regs there store places.
          let a = config here st.printed flat from regs in
          arrives_paying funs st.units (suc st.units) a (Tested here base limit env (unless past) first) (Behind limit) _ _ (omega arith)
          (arrives_later funs (suc st.units) st.units a (config here st.printed flat (suc at) regs) _ _
          (jump_comes funs here code is st.printed flat from regs st.units (suc at) there)
          (test_goes funs here code is base limit (length frame.kinds) call env bound_of_calls calls few set visible sized test h (unless past) (suc at) first st flat regs test_there refl store places))
          (λ truth one c comes r. elim truth as (λ b2. Tested here base limit env (unless past) first b2 one c
          → Arrives funs st.units a (Behind limit) (turned b2 (bodies b) (turns tests bodies b) env one)) [
            | false ↦ λ q.
                arrives_there funs st.units a _ (Next env) one c (comes_with funs (suc st.units) one.units st.units one.units a c (omega arith) comes)
                (record {
                  flow_is = record { flat = q.flat; regs = q.regs; is = q.is; store = q.store; places = q.places; sized = sized; can_complete = refl };
                })
            | true ↦ λ q. pays b (turns_go b) limit le few env sized st.units a one c comes q one.units refl
          ] r);
    }

  -- ---- all statements

  mutual
    unfolding statement statement_code statement_size IsStatement block

    pub statement_goes : (s : core.Stmt) (before after : Point) → IsStatement set before s after
        → (bound limit : ℕ) → limit ≤ bound → limit ≤ bound_of_calls → (place : Place) (env : Env) → length env ≡ length frame.kinds
        → (at next : ℕ) (st : Run L) (flat : Flat) (regs : List ℤ) → Stands code at (statement_code frame s at) → next ≡ at + statement_size s
        → StoreHolds base limit st flat → PlacesHold (sizes st) env regs
        → Arrives funs st.units (config here st.printed flat at regs) (Flowed here base limit code (length frame.kinds) (may_complete s) next)
        (statement recorder call fun bound place s env st)
    statement_goes (core.Set x e) before after h bound limit le few place env sized at next st flat regs stands n store places =
        set_goes funs here code is base frame call bound_of_calls calls set limit few env sized at next st flat regs store places before.visible h.0 x e h.1 stands n
    statement_goes (core.Split xs e a) before after h bound limit le few place env sized at next st flat regs stands n store places =
        split_goes funs here code is base frame call bound_of_calls calls set limit few env sized at next st flat regs store places before.visible (kind.Named h.0) xs e h.2 stands n
    statement_goes (core.Store array index e a) before after h bound limit le few place env sized at next st flat regs stands n store places =
        store_goes funs here code is base frame call bound_of_calls calls set limit few env sized at next st flat regs store places before.visible (kind.Array h.0) h.1 array index e h.2 h.3 h.5 stands n
    statement_goes (core.Do e) before after h bound limit le few place env sized at next st flat regs stands n store places =
        do_goes funs here code is base frame call bound_of_calls calls set limit few env sized at next st flat regs store places before.visible h.0 e h.2 stands n
    statement_goes (core.Print e) before after h bound limit le few place env sized at next st flat regs stands n store places =
        print_goes funs here code is base frame call bound_of_calls calls set limit few env sized at next st flat regs store places before.visible e h.0 stands n
    statement_goes (core.If test on_true on_false join a) before after h bound limit le few place env sized at next st flat regs stands n store places =
        if_goes before.visible test on_true on_false join a h.2 (block_goes on_true before h.0 h.3) (block_goes on_false (behind_block before h.0) h.1 h.4)
        bound limit le few place env sized at next st flat regs stands n store places
    statement_goes (core.While test head body a) before after h bound limit le few place env sized at next st flat regs stands n store places =
        let vars = length frame.kinds in
        let past = behind_loop test body at in
        let first = first_at test (suc at) in
        let T = test_code vars (unless past) test (suc at) in
        let A = block_code frame body first in
        let J = jump_if (completes_all body) (suc at) in
        let long_T = (test_long vars (unless past) test (suc at)).is in
        let long_A = (block_long frame body first).is in
        let rest = stands_rest code at (jump (suc at)) (T ++ (A ++ J)) stands in
        let at_first = stands_behind code (suc at) first T (A ++ J) (ap (λ k. suc at + k) (sym long_T)) rest in
        let at_end = stands_behind code first (first + block_size body) A J (ap (λ k. first + k) (sym long_A)) at_first in
        let same : past ≡ next = omega (arith, n) in
        subst (λ m. Arrives funs st.units (config here st.printed flat at regs) (Flowed here base limit code vars true m)
        (statement recorder call fun bound place (core.While test head body a) env st)) same
        ((turns_go before.visible test body at place h.2 (block_goes body h.0 h.1 h.4) (stands_front code (suc at) T _ rest) (stands_front code first A J at_first) at_end bound).by
        limit le few env sized at st flat regs (stands_first code at (jump (suc at)) _ stands) store places)
    statement_goes (core.Return value_of a) before after h bound limit le few place env sized at next st flat regs stands n store places =
        return_goes funs here code is base frame call bound_of_calls calls set limit few env sized at next st flat regs store places before.visible value_of a recorder fun bound place h.0 stands

    pub block_goes : (ss : core.Stmts) (before after : Point) → AreStatements set before ss after → BlockGoes ss
    block_goes core.NoStmt before after h = record {
      by = λ bound limit le few place number env sized at next st flat regs stands n store places.
          let same : at ≡ next = omega (arith, n) in
          arrives_there funs st.units _ _ (Next env) st (config here st.printed flat at regs) (comes_none funs st.units _)
          (record {
            flow_is = record {
              flat = flat;
              regs = regs;
              is = ap (λ k. config here st.printed flat k regs) same;
              store = store;
              places = places;
              sized = sized;
              can_complete = refl;
            };
          });
    }
    block_goes (core.AStmt s ss) before after h = record {
      by = λ bound limit le few place number env sized at next st flat regs stands n store places.
          let vars = length frame.kinds in
          let middle = at + statement_size s in
          let long = (statement_long frame s at).is in
          let C = statement_code frame s at in
          let rest = stands_behind code at middle C (block_code frame ss middle) (ap (λ k. at + k) (sym long)) stands in
          let start = reached recorder fun (number ∷ place) env st in
          let S = Flowed here base limit code vars (completes_all (core.AStmt s ss)) next in
          arrives_then funs st.units _ (Flowed here base limit code vars (may_complete s) middle) S _ _
          (statement_goes s before h.0 h.1 bound limit le few (number ∷ place) env sized at middle start flat regs (stands_front code at C _ stands) refl
          (record { is = store.is; more = store.more; below = store.below }) places)
          (λ flow one c f. elim flow as (λ x. Flowed here base limit code vars (may_complete s) middle x one c
          → Arrives funs one.units c S (behind x (λ env st. block recorder call fun bound place (suc number) ss env st) one)) [
            | Next more ↦ λ g.
                let r = g.flow_is in
                subst (λ x. Arrives funs one.units x S (block recorder call fun bound place (suc number) ss more one)) (sym r.is)
                (arrives_as funs one.units _ (Flowed here base limit code vars (completes_all ss) next) S _
                (block_after here base code vars s ss limit next r.can_complete)
                ((block_goes ss h.0 after h.3).by bound limit le few place (suc number) more r.sized middle next one r.flat r.regs rest (omega (arith, n)) r.store r.places))
            | Gives v ↦ λ g.
                arrives_there funs one.units c _ (Gives v) one c (comes_none funs one.units c)
                (gives_same here base code limit vars (may_complete s) (completes_all (core.AStmt s ss)) middle next v one c g)
          ] f);
    }
