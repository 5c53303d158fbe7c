-- Of the log of a test: what holds of it before holds behind.
use Rattle.std.proofs.Common.{◌≡◌, ℤ, List, [], ◌∷◌, Bool as Truth, true, false, Ok, sym, subst}
use Rattle.xan_lin.specs.Linear.{Linear}
use Rattle.state_types.proofs.Thens.{then_ok, ok_same}
use Rattle.operation_rules.specs.Sound.{IsSetting}
use Rattle.operation_rules.specs.declared.operation.Operation.TheVariants as operation
use Rattle.xanadu_tree.specs.declared.expr.Rel.{Rel}
use Rattle.xanadu_tree.specs.Plain as core
use Rattle.typed_core.specs.Constructs.{setting_of}
use Rattle.typed_core.specs.Operands.{operand}
use Rattle.typed_core.specs.Operators.{comparison_of, in_order}
use Rattle.typed_core.specs.SourceOperands.{value}
use Rattle.typed_core.specs.SourceRuns.{Run, Answer, Env, Calls}
use Rattle.typed_core.specs.SourceTests.{unless, holds, all_hold, any_holds}
use Rattle.typed_core.specs.States.{Site, State, noting_state}
use Rattle.typed_core.specs.Tests.{Sides, tested, all_true, all_false, on_side, leaf, truth_leaf}
use Rattle.source_safety.specs.Standing.{GoalsHold, Stands, Goes, CallsFare, side_state}
use Rattle.source_safety.proofs.BranchesFare.{branched_grown}
use Rattle.source_safety.proofs.ExpressionLogs.{CallsKeep, value_logs, both_logs}
use Rattle.source_safety.proofs.ExpressionsFare.{grown_goals}
use Rattle.source_safety.proofs.LogsKept.{Logs, logs_then, logs_next, related_logs, decided_logs}
use Rattle.source_safety.proofs.TestsFare.{all_true_on, all_false_on, tested_fares}

noted_goals : (rows : List Linear) (st : State) → GoalsHold (noting_state rows st).goals → GoalsHold st.goals
unfolding noting_state
noted_goals rows st hold = hold

module _ {L : Type 0} (K : L → Type 0) (site : Site) (setting : IsSetting (setting_of site)) (call : Calls L) (calls : CallsFare site.table site.sigs call)
    (kept : CallsKeep K site.table site.sigs call) (env : Env) where
  -- ---- leaves

  truth_logs : (e : core.Expr) (st : State) (sides : Sides) → truth_leaf site e st ≡ Ok sides → GoalsHold sides.after.goals → (assignment : List ℤ) (run : Run L)
      → Stands site st env assignment run.store → K run.log → Logs K (holds call env (core.Leaf e) run)
  unfolding truth_leaf holds
  truth_logs e st sides is goals assignment run stands k =
      let s = then_ok (operand site e st) _ sides is in
      let t = s.value.0 in
      let one = s.value.1 in
      let rest = grown_goals one sides.after (branched_grown site (operation.BranchTruth true) (t ∷ []) one sides s.second) goals in
      logs_next (value call env e run) _ (value_logs K site setting call calls kept env e st t one s.first rest assignment run stands k) (λ p l. decided_logs K p.0 p.1 l)

  compare_logs : (r : Rel) (left right : core.Expr) (st : State) (sides : Sides) → leaf site (core.Compare r left right) st ≡ Ok sides → GoalsHold sides.after.goals
      → (assignment : List ℤ) (run : Run L) → Stands site st env assignment run.store → K run.log → Logs K (holds call env (core.Leaf (core.Compare r left right)) run)
  unfolding leaf holds value
  compare_logs r left right st sides is goals assignment run stands k =
      let s = then_ok (operand site left st) _ sides is in
      let one = s.value.1 in
      let w = then_ok (operand site right one) _ sides s.second in
      let two = w.value.1 in
      let rest = grown_goals two sides.after (branched_grown site (operation.Branch (comparison_of r)) (in_order r s.value.0 w.value.0) two sides w.second) goals in
      logs_next (value call env (core.Compare r left right) run) _
      (both_logs K site setting call calls kept env left right st s.value.0 one w.value.0 two s.first w.first rest assignment run stands _ (λ a b new l. related_logs K r a b new l)
      (λ hold. value_logs K site setting call calls kept env left st s.value.0 one s.first hold assignment run stands k)
      (λ given now there l. value_logs K site setting call calls kept env right one w.value.0 two w.first rest given now there l))
      (λ p l. decided_logs K p.0 p.1 l)

  leaf_logs : (e : core.Expr) (st : State) (sides : Sides) → leaf site e st ≡ Ok sides → GoalsHold sides.after.goals → (assignment : List ℤ) (run : Run L)
      → Stands site st env assignment run.store → K run.log → Logs K (holds call env (core.Leaf e) run)
  unfolding leaf
  leaf_logs (core.Compare r left right) st sides is goals assignment run stands k = compare_logs r left right st sides is goals assignment run stands k
  leaf_logs e st sides is goals assignment run stands k = truth_logs e st sides is goals assignment run stands k

  -- ---- tests

  -- the others begin on this side, or the test ends
  all_next : (more : Sides) (truth : Truth) (others : Run L → Answer L Truth) (assignment : List ℤ) (store : _) (run : Run L) → K run.log
      → Goes site (side_state truth more) env assignment store run.store → (Goes site (on_side more.on_true more.after) env assignment store run.store → Logs K (others run))
      → Logs K (unless true truth others run)
  all_next more true others assignment store run k goes next = next goes
  all_next more false others assignment store run k goes next = record { is = k }

  any_next : (more : Sides) (truth : Truth) (others : Run L → Answer L Truth) (assignment : List ℤ) (store : _) (run : Run L) → K run.log
      → Goes site (side_state truth more) env assignment store run.store → (Goes site (on_side more.on_false more.after) env assignment store run.store → Logs K (others run))
      → Logs K (unless false truth others run)
  any_next more false others assignment store run k goes next = next goes
  any_next more true others assignment store run k goes next = record { is = k }

  mutual
    unfolding tested holds

    pub test_logs : (test : core.Test) (st : State) (sides : Sides) → tested site test st ≡ Ok sides → GoalsHold sides.after.goals → (assignment : List ℤ) (run : Run L)
        → Stands site st env assignment run.store → K run.log → Logs K (holds call env test run)
    test_logs (core.Leaf e) st sides is goals assignment run stands k = leaf_logs e st sides is goals assignment run stands k
    test_logs (core.All parts) st sides is goals assignment run stands k =
        let begin : Sides = record { on_true = st.ctx.rows; on_false = st.ctx.rows; after = st } in
        let s = then_ok (all_true site parts begin) _ sides is in
        let same = ok_same (record { on_true = s.value.on_true; on_false = st.ctx.rows; after = noting_state st.ctx.rows s.value.after }) sides s.second in
        let hold = noted_goals st.ctx.rows s.value.after (subst (λ (x : Sides). GoalsHold x.after.goals) (sym same) goals) in
        all_logs parts begin s.value s.first hold assignment run stands k
    test_logs (core.Any parts) st sides is goals assignment run stands k =
        let begin : Sides = record { on_true = st.ctx.rows; on_false = st.ctx.rows; after = st } in
        let s = then_ok (all_false site parts begin) _ sides is in
        let same = ok_same (record { on_true = st.ctx.rows; on_false = s.value.on_false; after = noting_state st.ctx.rows s.value.after }) sides s.second in
        let hold = noted_goals st.ctx.rows s.value.after (subst (λ (x : Sides). GoalsHold x.after.goals) (sym same) goals) in
        any_logs parts begin s.value s.first hold assignment run stands k
    test_logs (core.Not part) st sides is goals assignment run stands k =
        let s = then_ok (tested site part st) _ sides is in
        let same = ok_same (record { on_true = s.value.on_false; on_false = s.value.on_true; after = s.value.after }) sides s.second in
        let hold = subst (λ (x : Sides). GoalsHold x.after.goals) (sym same) goals in
        logs_next (holds call env part run) _ (test_logs part st s.value s.first hold assignment run stands k) (λ p l. record { is = l })

    all_logs : (parts : core.Tests) (sides last : Sides) → all_true site parts sides ≡ Ok last → GoalsHold last.after.goals → (assignment : List ℤ) (run : Run L)
        → Stands site (on_side sides.on_true sides.after) env assignment run.store → K run.log → Logs K (all_hold call env parts run)
    all_logs core.NoTest sides last is goals assignment run stands k = record { is = k }
    all_logs (core.ATest part others) sides last is goals assignment run stands k =
        let here = on_side sides.on_true sides.after in
        let s = then_ok (tested site part here) _ last is in
        let hold = (all_true_on site others s.value last s.second).goals goals in
        logs_then (holds call env part run) _ (tested_fares site setting call calls env part here s.value s.first hold assignment run stands) (test_logs part here s.value s.first hold assignment run stands k)
        (λ p g l. all_next s.value p.0 (λ st. all_hold call env others st) assignment run.store p.1 l g (λ h. all_logs others s.value last s.second goals h.given p.1 h.stands l))

    any_logs : (parts : core.Tests) (sides last : Sides) → all_false site parts sides ≡ Ok last → GoalsHold last.after.goals → (assignment : List ℤ) (run : Run L)
        → Stands site (on_side sides.on_false sides.after) env assignment run.store → K run.log → Logs K (any_holds call env parts run)
    any_logs core.NoTest sides last is goals assignment run stands k = record { is = k }
    any_logs (core.ATest part others) sides last is goals assignment run stands k =
        let here = on_side sides.on_false sides.after in
        let s = then_ok (tested site part here) _ last is in
        let hold = (all_false_on site others s.value last s.second).goals goals in
        logs_then (holds call env part run) _ (tested_fares site setting call calls env part here s.value s.first hold assignment run stands) (test_logs part here s.value s.first hold assignment run stands k)
        (λ p g l. any_next s.value p.0 (λ st. any_holds call env others st) assignment run.store p.1 l g (λ h. any_logs others s.value last s.second goals h.given p.1 h.stands l))
