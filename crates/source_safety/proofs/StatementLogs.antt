-- Of the log of statements and blocks: what holds of it before holds behind, where it holds behind each record that is made as a statement is reached.
use Rattle.std.proofs.Common.{◌≡◌, ◌∙◌, inl, inr, ℕ, suc, ℤ, List, [], ◌∷◌, length, Bool as Truth, true, false, Option, Some, None, Ok, refl, sym, subst}
use Rattle.state_types.proofs.Thens.{then_ok, ok_same}
use Rattle.operation_rules.specs.Sound.{IsSetting}
use Rattle.operation_rules.specs.declared.operation.Operation.TheVariants as operation
use Rattle.xanadu_tree.specs.BodyRules.{Point, behind_block, completes, completes_all, IsStatement, AreStatements}
use Rattle.xanadu_tree.specs.KindRules.{Setting}
use Rattle.xanadu_tree.specs.Plain as core
use Rattle.typed_core.specs.Constructs.{setting_of, types_by}
use Rattle.typed_core.specs.Operands.{operand}
use Rattle.typed_core.specs.SourceOperands.{value}
use Rattle.typed_core.specs.SourceRuns.{Run, Answer, Env, Place, Recorder, Calls, Flow}
use Rattle.typed_core.specs.SourceStatements as source
use Rattle.typed_core.specs.SourceStatements.{reached, one_of_two, set_variable, set_all, parts_read, cell_put, number_printed}
use Rattle.typed_core.specs.SourceTests.{holds}
use Rattle.typed_core.specs.SourceValues.{Blocks}
use Rattle.typed_core.specs.States.{Site, State, as_tuple}
use Rattle.typed_core.specs.Statements.{assigned, split, store, done, printed, returning, other_branch, statement, block}
use Rattle.typed_core.specs.Tests.{Sides, on_side}
use Rattle.typed_core.proofs.FitOperands.{Suits}
use Rattle.typed_core.proofs.GrownContexts.{types_by_goes}
use Rattle.typed_core.proofs.GrownStatements.{block_goes}
use Rattle.typed_core.proofs.NamedStates.{answered}
use Rattle.source_safety.specs.Recorded.{StandsAt, StandsInside}
use Rattle.source_safety.specs.Standing.{GoalsHold, Stands, Goes, CallsFare, side_state}
use Rattle.source_safety.proofs.BranchesFare.{state_grown}
use Rattle.source_safety.proofs.BranchParts.{branching_is, grows, other_goes, true_at, false_at}
use Rattle.source_safety.proofs.Demanded.{goals_before}
use Rattle.source_safety.proofs.ExpressionLogs.{CallsKeep, value_logs}
use Rattle.source_safety.proofs.ExpressionsFare.{expression_grown, grown_goals, value_fares}
use Rattle.source_safety.proofs.LogsKept.{Logs, logs_then, logs_next, set_logs, set_all_logs, parts_logs, cell_put_logs, printed_logs}
use Rattle.source_safety.proofs.LoopParts.{looping_is, turns, body_at, begins_loop}
use Rattle.source_safety.proofs.PlacesKnown.{IsAt, statement_at}
use Rattle.source_safety.proofs.SimpleStatements.{given_is}
use Rattle.source_safety.proofs.SplitsFare.{given_goals}
use Rattle.source_safety.proofs.StatementsFare.{statement_fares, loop_fares}
use Rattle.source_safety.proofs.TestLogs.{test_logs}
use Rattle.source_safety.proofs.TestsFare.{tested_fares}
use Rattle.source_safety.proofs.TurnLogs.{behind_logs, turns_logs}

-- What is recorded as a statement of the function is reached keeps it so, where the run stands at a state that is elaborated in front of the statement.
-- Which statement and which state these are is told by `Root`.
pub record Keeps {L : Type 0} (K : L → Type 0) (recorder : Recorder L) (site : Site) (fun : ℕ) (Root : Place → core.Stmt → State → Type 0) : Type 0 where
  pub by : (place : Place) (reached : core.Stmt) (there : State) (env : Env) (assignment : List ℤ) (store : Blocks) (log : L) → Root place reached there
      → Stands site there env assignment store → K log → K (recorder fun place env store log)

-- so are those of a block, and of a statement
pub record Within (Root : Place → core.Stmt → State → Type 0) (site : Site) (outer : Place) (number : ℕ) (ss : core.Stmts) (st : State) : Type 0 where
  pub by : (place : Place) (reached : core.Stmt) (there : State) → StandsAt site outer number ss st place reached there → Root place reached there

pub record Inside (Root : Place → core.Stmt → State → Type 0) (site : Site) (own : Place) (s : core.Stmt) (st : State) : Type 0 where
  pub by : (place : Place) (reached : core.Stmt) (there : State) → StandsInside site own s st place reached there → Root place reached there

-- ---- statements without blocks

module _ {L : Type 0} (K : L → Type 0) (site : Site) (setting : IsSetting (setting_of site)) (recorder : Recorder L) (call : Calls L) (calls : CallsFare site.table site.sigs call)
    (kept : CallsKeep K site.table site.sigs call) (fun bound : ℕ) (place : Place) (env : Env) (st more : State) (goals : GoalsHold more.goals) (assignment : List ℤ) (run : Run L)
    (stands : Stands site st env assignment run.store) (k : K run.log) where
  first_logs : (e : core.Expr) (t : _) (one : State) → operand site e st ≡ Ok (t, one) → GoalsHold one.goals → Logs K (value call env e run)
  first_logs e t one is hold = value_logs K site setting call calls kept env e st t one is hold assignment run stands k

  pub set_statement_logs : (x : ℕ) (e : core.Expr) → assigned site x e st ≡ Ok more → Logs K (source.statement recorder call fun bound place (core.Set x e) env run)
  unfolding assigned source.statement
  set_statement_logs x e is =
      let s = then_ok (operand site e st) _ more is in
      let same = given_is x s.value.0 s.value.1 more s.second in
      let hold : GoalsHold s.value.1.goals = subst (λ (m : State). GoalsHold m.goals) (sym same) goals in
      logs_next (value call env e run) _ (first_logs e s.value.0 s.value.1 s.first hold)
      (λ p l. logs_next (set_variable env x p.0 p.1) _ (set_logs K env x p.0 p.1 l) (λ q n. record { is = n }))

  pub split_statement_logs : (xs : List ℕ) (e : core.Expr) (at : ℕ) → split site xs e st ≡ Ok more → Logs K (source.statement recorder call fun bound place (core.Split xs e at) env run)
  unfolding split source.statement
  split_statement_logs xs e at is =
      let s = then_ok (operand site e st) _ more is in
      let one = s.value.1 in
      let n = then_ok (as_tuple s.value.0) _ more s.second in
      let o = operation.Untuple n.value (length xs) in
      let k = then_ok (types_by site None o (s.value.0 ∷ []) one) _ more n.second in
      let onward = answered (types_by site None o (s.value.0 ∷ []) one) k.value (types_by_goes site None o (s.value.0 ∷ []) one) k.first in
      let hold = grown_goals one k.value.1 onward.grown (subst GoalsHold (given_goals xs k.value.0 k.value.1 more k.second) goals) in
      logs_next (value call env e run) _ (first_logs e s.value.0 one s.first hold)
      (λ p l. logs_next (parts_read (length xs) p.0 p.1) _ (parts_logs K (length xs) p.0 p.1 l)
      (λ q n. logs_next (set_all env xs q.0 q.1) _ (set_all_logs K env xs q.0 q.1 n) (λ r m. record { is = m })))

  pub store_statement_logs : (array index e : core.Expr) (at : ℕ) → store site array index e at st ≡ Ok more
      → Logs K (source.statement recorder call fun bound place (core.Store array index e at) env run)
  unfolding store source.statement
  store_statement_logs array index e at is =
      let s = then_ok (operand site array st) _ more is in
      let one = s.value.1 in
      let u = then_ok (operand site index one) _ more s.second in
      let two = u.value.1 in
      let n = then_ok (operand site e two) _ more u.second in
      let three = n.value.1 in
      let hold = grown_goals three more (state_grown site (Some at) operation.Store (s.value.0 ∷ u.value.0 ∷ n.value.0 ∷ []) three more n.second) goals in
      let hold_two = grown_goals two three (expression_grown site e two n.value.0 three n.first) hold in
      let hold_one = grown_goals one two (expression_grown site index one u.value.0 two u.first) hold_two in
      logs_then (value call env array run) _ (value_fares site setting call calls env array st s.value.0 one s.first hold_one assignment run stands)
      (first_logs array s.value.0 one s.first hold_one)
      (λ p g l. logs_then (value call env index p.1) _ (value_fares site setting call calls env index one u.value.0 two u.first hold_two g.goes.given p.1 g.goes.stands)
      (value_logs K site setting call calls kept env index one u.value.0 two u.first hold_two g.goes.given p.1 g.goes.stands l)
      (λ q h m. logs_next (value call env e q.1) _ (value_logs K site setting call calls kept env e two n.value.0 three n.first hold h.goes.given q.1 h.goes.stands m)
      (λ r f. logs_next (cell_put p.0 q.0 r.0 r.1) _ (cell_put_logs K p.0 q.0 r.0 r.1 f) (λ d c. record { is = c }))))

  pub do_statement_logs : (e : core.Expr) → done site e st ≡ Ok more → Logs K (source.statement recorder call fun bound place (core.Do e) env run)
  unfolding done source.statement
  do_statement_logs e is =
      let s = then_ok (operand site e st) _ more is in
      let hold : GoalsHold s.value.1.goals = subst (λ (m : State). GoalsHold m.goals) (sym (ok_same s.value.1 more s.second)) goals in
      logs_next (value call env e run) _ (first_logs e s.value.0 s.value.1 s.first hold) (λ p l. record { is = l })

  pub print_statement_logs : (e : core.Expr) → printed site e st ≡ Ok more → Logs K (source.statement recorder call fun bound place (core.Print e) env run)
  unfolding printed source.statement
  print_statement_logs e is =
      let s = then_ok (operand site e st) _ more is in
      let hold = grown_goals s.value.1 more (state_grown site None operation.Print (s.value.0 ∷ []) s.value.1 more s.second) goals in
      logs_next (value call env e run) _ (first_logs e s.value.0 s.value.1 s.first hold)
      (λ p l. logs_next (number_printed p.0 p.1) _ (printed_logs K p.0 p.1 l) (λ q n. record { is = n }))

  pub return_statement_logs : (e : Option core.Expr) (at : ℕ) → returning site e at st ≡ Ok more → Logs K (source.statement recorder call fun bound place (core.Return e at) env run)
  unfolding returning source.statement
  return_statement_logs None at is = record { is = k }
  return_statement_logs (Some e) at is =
      let s = then_ok (operand site e st) _ more is in
      let hold = grown_goals s.value.1 more (state_grown site (Some at) operation.Return (s.value.0 ∷ []) s.value.1 more s.second) goals in
      logs_next (value call env e run) _ (first_logs e s.value.0 s.value.1 s.first hold) (λ p l. record { is = l })

module _ {L : Type 0} (K : L → Type 0) where
  one_logs : (site : Site) (truth : Truth) (sides : Sides) (env : Env) (assignment : List ℤ) (old : Blocks) (run : Run L) (on_true on_false : Run L → Answer L Flow)
      → Goes site (side_state truth sides) env assignment old run.store → (Goes site (on_side sides.on_true sides.after) env assignment old run.store → Logs K (on_true run))
      → (Goes site (on_side sides.on_false sides.after) env assignment old run.store → Logs K (on_false run)) → Logs K (one_of_two truth on_true on_false run)
  one_logs site true sides env assignment old run on_true on_false g first second = first g
  one_logs site false sides env assignment old run on_true on_false g first second = second g

-- ---- statements and blocks

module _ {L : Type 0} (K : L → Type 0) (set : Setting) (site : Site) (suits : Suits set site) (setting : IsSetting (setting_of site)) (recorder : Recorder L) (call : Calls L)
    (calls : CallsFare site.table site.sigs call) (kept : CallsKeep K site.table site.sigs call) (fun : ℕ) (Root : Place → core.Stmt → State → Type 0)
    (keeps : Keeps K recorder site fun Root) where
  mutual
    unfolding statement source.statement AreStatements StandsAt

    pub statement_logs : (s : core.Stmt) (before after : Point) (st more : State) (bound : ℕ) (place : Place) (env : Env) (assignment : List ℤ) (run : Run L)
        → IsStatement set before s after → IsAt set site.own.vars before st → statement site s st ≡ Ok more → GoalsHold more.goals → Stands site st env assignment run.store
        → length env ≡ length set.kinds → Inside Root site place s st → K run.log → Logs K (source.statement recorder call fun bound place s env run)
    statement_logs (core.Set x e) before after st more bound place env assignment run is here e1 goals stands wide inside k =
        set_statement_logs K site setting recorder call calls kept fun bound place env st more goals assignment run stands k x e e1
    statement_logs (core.Split xs e at) before after st more bound place env assignment run is here e1 goals stands wide inside k =
        split_statement_logs K site setting recorder call calls kept fun bound place env st more goals assignment run stands k xs e at e1
    statement_logs (core.Store array index e at) before after st more bound place env assignment run is here e1 goals stands wide inside k =
        store_statement_logs K site setting recorder call calls kept fun bound place env st more goals assignment run stands k array index e at e1
    statement_logs (core.Do e) before after st more bound place env assignment run is here e1 goals stands wide inside k =
        do_statement_logs K site setting recorder call calls kept fun bound place env st more goals assignment run stands k e e1
    statement_logs (core.Print e) before after st more bound place env assignment run is here e1 goals stands wide inside k =
        print_statement_logs K site setting recorder call calls kept fun bound place env st more goals assignment run stands k e e1
    statement_logs (core.If test on_true on_false join at) before after st more bound place env assignment run is here e goals stands wide inside k =
        let b = branching_is site test on_true on_false join at st more e in
        let g = grows site test on_true on_false join at st more b in
        let side = on_side b.sides.on_true b.sides.after in
        let other = other_branch b.sides.on_false st b.one in
        let two_hold = g.two_goals goals in
        let one_hold = g.one_goals two_hold in
        let after_hold = g.after_goals one_hold in
        logs_then (holds call env test run) _ (tested_fares site setting call calls env test st b.sides b.tests after_hold assignment run stands)
        (test_logs K site setting call calls kept env test st b.sides b.tests after_hold assignment run stands k)
        (λ p h l. one_logs K site p.0 b.sides env assignment run.store p.1
        (λ st. source.block recorder call fun bound (0 ∷ place) 0 on_true env st) (λ st. source.block recorder call fun bound (1 ∷ place) 0 on_false env st) h
        (λ c. block_logs on_true before is.0 side b.one bound (0 ∷ place) 0 env c.given p.1 is.3
        (true_at site test on_true on_false join at st more b set suits setting.table before is.0 is.1 here is.3 is.4) b.first one_hold c.stands wide
        (record { by = λ q r t w. inside.by q r t (b.sides, b.tests, inl w) }) l)
        (λ c. let d = other_goes site test on_true on_false join at st more b env assignment run.store p.1.store c in
        block_logs on_false (behind_block before is.0) is.1 other b.two bound (1 ∷ place) 0 env d.given p.1 is.4
        (false_at site test on_true on_false join at st more b set suits setting.table before is.0 is.1 here is.3 is.4) b.second two_hold d.stands wide
        (record { by = λ q r t w. inside.by q r t (b.sides, b.tests, inr (b.one, b.first, w)) }) l))
    statement_logs (core.While test head body at) before after st more bound place env assignment run is here e goals stands wide inside k =
        let l = looping_is site test head body at st more e in
        let t = turns site test head body at st more l in
        let turn_hold = t.turn_goals (t.back_goals goals) in
        let after_hold = t.after_goals turn_hold in
        let side = on_side l.sides.on_true l.sides.after in
        turns_logs K site (length env) assignment run.store (completes_all body) l.begun l.sides l.turn more (λ env st. holds call env test st)
        (λ bound env st. source.block recorder call fun bound (0 ∷ place) 0 body env st)
        (loop_fares set site suits setting recorder call calls fun test head body at before is.0 is.1 st more place env assignment run l is.3 is.4 here goals stands wide)
        (record {
          tests = λ there given now at_head n. test_logs K site setting call calls kept there test l.begun l.sides l.tests after_hold given now at_head n;
          bodies = λ m there given now at_body same n.
              block_logs body is.0 is.1 side l.turn m (0 ∷ place) 0 there given now is.4
              (body_at site test head body at st more l set suits setting.table before is.0 is.1 here is.3 is.4) l.inner turn_hold at_body (same ∙ wide)
              (record { by = λ q r s w. inside.by q r s (l.joint, l.start, l.begun, l.sides, l.joins, l.enters, l.tests, w) }) n;
        }) bound env run (begins_loop site test head body at st more l set suits setting.table before is.0 is.1 here is.3 is.4 env assignment run.store stands goals) refl k
    statement_logs (core.Return value at) before after st more bound place env assignment run is here e goals stands wide inside k =
        return_statement_logs K site setting recorder call calls kept fun bound place env st more goals assignment run stands k value at e

    pub block_logs : (ss : core.Stmts) (before after : Point) (st more : State) (bound : ℕ) (place : Place) (number : ℕ) (env : Env) (assignment : List ℤ) (run : Run L)
        → AreStatements set before ss after → IsAt set site.own.vars before st → block site ss st ≡ Ok more → GoalsHold more.goals → Stands site st env assignment run.store
        → length env ≡ length set.kinds → Within Root site place number ss st → K run.log → Logs K (source.block recorder call fun bound place number ss env run)
    block_logs core.NoStmt before after st more bound place number env assignment run are here e goals stands wide within k = record { is = k }
    block_logs (core.AStmt s ss) before after st more bound place number env assignment run are here e goals stands wide within k =
        let t = then_ok (statement site s st) _ more e in
        let one = t.value in
        let hold = goals_before one.goals more.goals (answered (block site ss one) more (block_goes site ss one) t.second).later.goals goals in
        let next = statement_at set site suits setting.table s before are.0 st one are.1 here t.first in
        let begun = reached recorder fun (number ∷ place) env run in
        let noted = keeps.by (number ∷ place) s st env assignment run.store run.log (within.by (number ∷ place) s st (inl (refl, refl, refl))) stands k in
        logs_then (source.statement recorder call fun bound (number ∷ place) s env begun) _
        (statement_fares set site suits setting recorder call calls fun s before are.0 st one bound (number ∷ place) env assignment begun are.1 here t.first hold stands wide)
        (statement_logs s before are.0 st one bound (number ∷ place) env assignment begun are.1 here t.first hold stands wide
        (record { by = λ q r u w. within.by q r u (inr (inl w)) }) noted)
        (λ p h l. behind_logs K (completes s) site one (length env) assignment run.store (λ env st. source.block recorder call fun bound place (suc number) ss env st) p.0 p.1 h l
        (λ inside c. block_logs ss are.0 after one more bound place (suc number) inside c.goes.given p.1 are.3 next t.second goals c.goes.stands (c.wide ∙ wide)
        (record { by = λ q r u w. within.by q r u (inr (inr (one, t.first, w))) }) l))
