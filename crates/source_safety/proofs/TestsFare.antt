-- Tests go well: they are decided, and the rows of the side that is taken hold.
use Rattle.std.proofs.Common.{◌≡◌, ◌∙◌, ℕ, ◌+◌, ◌-◌, ◌≤◌, ℤ, pos, List, [], ◌∷◌, ◌++◌, length, replicate, Bool as Truth, true, false, not, Ok, refl, sym, ap, subst, length-append, arith}
use Rattle.std.specs.List.{All}
use Rattle.std.specs.Ordering.{int_eq}
use Rattle.std.proofs.lemmas.List.{length-replicate}
use Rattle.index_sorts.specs.Context.{IndexContext}
use Rattle.index_sorts.specs.Entails.{AllHold}
use Rattle.xan_lin.specs.Linear.{Linear, NamesBelow}
use Rattle.state_types.specs.Types.{TypeBelow}
use Rattle.state_types.specs.declared.types.Ty.{Ty}
use Rattle.state_types.proofs.Thens.{then_ok, ok_same}
use Rattle.state_types.proofs.Unpacked.{holds-front}
use Rattle.operation_rules.specs.Effects.{compares, truth_word}
use Rattle.operation_rules.specs.Sound.{IsSetting}
use Rattle.operation_rules.specs.declared.operation.Operation.TheVariants as operation
use Rattle.xanadu_tree.specs.declared.expr.Rel.{Rel}
use Rattle.xanadu_tree.specs.declared.expr.Rel.TheVariants as rel
use Rattle.xanadu_tree.specs.Plain as core
use Rattle.typed_core.specs.Constructs.{setting_of}
use Rattle.typed_core.specs.Growth.{NamesSoFar, SidesNamed}
use Rattle.typed_core.specs.Operands.{operand}
use Rattle.typed_core.specs.Operators.{comparison_of, in_order}
use Rattle.typed_core.specs.SourceOperands.{value, value_by, value_if, no_cells, related}
use Rattle.typed_core.specs.SourceRuns.{Run, Env, Calls}
use Rattle.typed_core.specs.SourceTests.{decided, decided_if, unless, holds, all_hold, any_holds}
use Rattle.typed_core.specs.SourceValues.{Number, Truth as Flag, Value, Blocks, words_of, have_tags}
use Rattle.typed_core.specs.States.{Site, State, noting_state}
use Rattle.typed_core.specs.Tests.{Sides, tested, all_true, all_false, on_side, leaf, truth_leaf, branched}
use Rattle.typed_core.proofs.Continued.{some_more, more_again}
use Rattle.typed_core.proofs.GrownTests.{tested_goes}
use Rattle.typed_core.proofs.NamedOperands.{tested_stays}
use Rattle.typed_core.proofs.NamedStates.{answered, Typed, typed_on, types_more}
use Rattle.typed_core.proofs.GrownContexts.{rows_more}
use Rattle.source_safety.specs.Values.{headers_of}
use Rattle.source_safety.specs.Standing.{GoalsHold, VariablesHold, Stands, Goes, CallsFare, Fares, side_state, Operands}
use Rattle.source_safety.proofs.BranchesFare.{branched_fares, branched_grown, branched_by}
use Rattle.source_safety.proofs.Demanded.{goals_before}
use Rattle.source_safety.proofs.EffectsFare.{tags_there}
use Rattle.source_safety.proofs.ExpressionsFare.{value_fares, expression_grown, grown_goals, one_operand, more_operands}
use Rattle.source_safety.proofs.FaredOn.{fares_then, fares_on, keeps_all, variables_wait, goes_on, goes_behind, stays_here}
use Rattle.source_safety.proofs.RuleTags.{branch_tags, branch_truth_tags}
use Rattle.source_safety.proofs.ValuesMade.{turned_operands}

-- ---- states that differ in their notes alone

pub same_stands : (site : Site) (env : Env) (one two : State) (assignment : List ℤ) (store : Blocks) → one.ctx ≡ two.ctx → one.types ≡ two.types → Stands site one env assignment store
    → Stands site two env assignment store
same_stands site env one two assignment store ctx types s = record {
  own = subst (λ (c : IndexContext). site.own.vars ≤ c.vars) ctx s.own;
  named = record {
    rows = subst (λ (c : IndexContext). All (NamesBelow c.vars) c.rows) ctx s.named.rows;
    types = subst (λ (ts : List (ℕ × Ty)). All (λ e. TypeBelow two.ctx.vars e.1) ts) types (subst (λ (c : IndexContext). All (λ (e : ℕ × Ty). TypeBelow c.vars e.1) one.types) ctx s.named.types);
  };
  one_each = s.one_each ∙ ap (λ c. c.vars) ctx;
  hold = subst (λ (c : IndexContext). AllHold assignment c.rows) ctx s.hold;
  typed = subst (λ (ts : List (ℕ × Ty)). VariablesHold env (headers_of store) assignment ts) types s.typed;
  holds = s.holds;
}

pub same_goes : (site : Site) (env : Env) (one two : State) (assignment : List ℤ) (old new : Blocks) → one.ctx ≡ two.ctx → one.types ≡ two.types → Goes site one env assignment old new
    → Goes site two env assignment old new
same_goes site env one two assignment old new ctx types g = record {
  given = g.given;
  front = g.front;
  stands = same_stands site env one two g.given new ctx types g.stands;
  keeps = g.keeps;
}

-- ---- how a test goes on

pub record On (st more : State) : Type 0 where
  pub vars : st.ctx.vars ≤ more.ctx.vars
  pub goals : GoalsHold more.goals → GoalsHold st.goals
  pub types : more.types ≡ st.types

on_again : (a b c : State) → On a b → On b c → On a c
on_again a b c one two =
    (let h = one.vars in let g = two.vars in
    record { vars = omega (arith, h, g); goals = λ hold. one.goals (two.goals hold); types = two.types ∙ one.types })

module _ (site : Site) where
  pub test_on : (test : core.Test) (st : State) (sides : Sides) → tested site test st ≡ Ok sides → On st sides.after
  test_on test st sides is =
      let g = (answered (tested site test st) sides (tested_goes site test st) is).grown in
      record { vars = g.later.vars; goals = λ hold. goals_before st.goals sides.after.goals g.later.goals hold; types = g.types }

  pub all_true_on : (parts : core.Tests) (sides last : Sides) → all_true site parts sides ≡ Ok last → On sides.after last.after
  unfolding all_true
  all_true_on core.NoTest sides last is = subst (λ (x : Sides). On sides.after x.after) (ok_same sides last is) (record { vars = omega arith; goals = λ hold. hold; types = refl })
  all_true_on (core.ATest part others) sides last is =
      let s = then_ok (tested site part (on_side sides.on_true sides.after)) _ last is in
      let h = test_on part (on_side sides.on_true sides.after) s.value s.first in
      on_again sides.after s.value.after last.after (record { vars = h.vars; goals = h.goals; types = h.types }) (all_true_on others s.value last s.second)

  pub all_false_on : (parts : core.Tests) (sides last : Sides) → all_false site parts sides ≡ Ok last → On sides.after last.after
  unfolding all_false
  all_false_on core.NoTest sides last is = subst (λ (x : Sides). On sides.after x.after) (ok_same sides last is) (record { vars = omega arith; goals = λ hold. hold; types = refl })
  all_false_on (core.ATest part others) sides last is =
      let s = then_ok (tested site part (on_side sides.on_false sides.after)) _ last is in
      let h = test_on part (on_side sides.on_false sides.after) s.value s.first in
      on_again sides.after s.value.after last.after (record { vars = h.vars; goals = h.goals; types = h.types }) (all_false_on others s.value last s.second)

  pub test_named : (setting : IsSetting (setting_of site)) (test : core.Test) (st : State) (sides : Sides) → site.own.vars ≤ st.ctx.vars → NamesSoFar st → tested site test st ≡ Ok sides
      → SidesNamed sides
  test_named setting test st sides le names is =
      let typed : Typed site.own.vars st = record { own_vars = le; types = names.types } in
      let went = answered (tested site test st) sides (tested_stays site setting.table test st typed) is in
      let grown = answered (tested site test st) sides (tested_goes site test st) is in
      record {
        on_true = grown.on_true setting.table names.rows;
        on_false = grown.on_false setting.table names.rows;
        types = (typed_on site.own.vars st sides.after went typed).types;
      }

-- ---- a test that ends before its last part

module _ (site : Site) (env : Env) where
  -- the rows in front of the test hold over all index variables so far; those that no part has met are 0
  ends_early : (st middle last : State) (assignment : List ℤ) (old new : Blocks) → Stands site st env assignment old → (g : Goes site middle env assignment old new) → On middle last
      → NamesSoFar (on_side st.ctx.rows last) → Goes site (on_side st.ctx.rows last) env assignment old new
  ends_early st middle last assignment old new stands g on named =
      (let zeros = replicate (last.ctx.vars - middle.ctx.vars) (pos 0) in
      let longer = g.given ++ zeros in
      let front = more_again assignment g.given longer g.front (some_more g.given zeros) in
      let le = on.vars in
      let own_le = g.stands.own in
      let below = subst (λ n. All (λ (e : ℕ × Ty). TypeBelow n e.1) middle.types) (sym g.stands.one_each) g.stands.named.types in
      let count : length longer ≡ last.ctx.vars = length-append g.given zeros ∙ ap (λ n. n + length zeros) g.stands.one_each
      ∙ ap (λ n. middle.ctx.vars + n) (length-replicate (last.ctx.vars - middle.ctx.vars) (pos 0)) ∙ omega (arith, le) in
      let rows = subst (λ n. All (NamesBelow n) st.ctx.rows) (sym stands.one_each) stands.named.rows in
      record {
        given = longer;
        front = front;
        stands = record {
          own = omega (arith, le, own_le);
          named = named;
          one_each = count;
          hold = subst (λ a. AllHold a st.ctx.rows) (sym front.is) (holds-front assignment front.rest st.ctx.rows rows stands.hold);
          typed = subst (λ (ts : List (ℕ × Ty)). VariablesHold env (headers_of new) longer ts) (sym on.types)
              (variables_wait (headers_of new) (headers_of new) g.given longer (keeps_all (headers_of new)) (some_more g.given zeros) env middle.types below g.stands.typed);
          holds = g.stands.holds;
        };
        keeps = g.keeps;
      })

-- ---- leaves

module _ {L : Type 0} (site : Site) (setting : IsSetting (setting_of site)) (call : Calls L) (calls : CallsFare site.table site.sigs call) (env : Env) where
  abbrev pub Beside : (sides : Sides) (assignment : List ℤ) (store : Blocks) → Truth → Run L → Type 0
  Beside sides assignment store truth new = Goes site (side_state truth sides) env assignment store new.store

  decided_fares : (sides : Sides) (assignment : List ℤ) (store : Blocks) (v : Value) (run : Run L) → have_tags (v ∷ []) (Flag ∷ []) ≡ true
      → Beside sides assignment store (int_eq v.word (truth_word true)) run → Fares (Beside sides assignment store) (decided v run)
  unfolding decided words_of have_tags
  decided_fares sides assignment store v run fit goes = subst (λ b. Fares (Beside sides assignment store) (decided_if b v run)) (sym fit) (record { is = goes })

  truth_fares : (e : core.Expr) (st : State) (sides : Sides) → truth_leaf site e st ≡ Ok sides → SidesNamed sides → GoalsHold sides.after.goals → (assignment : List ℤ) (run : Run L)
      → Stands site st env assignment run.store → Fares (Beside sides assignment run.store) (holds call env (core.Leaf e) run)
  unfolding truth_leaf holds words_of goes_behind goes_on
  truth_fares e st sides is named goals assignment run stands =
      let s = then_ok (operand site e st) _ sides is in
      let t = s.value.0 in
      let one = s.value.1 in
      let rest = grown_goals one sides.after (branched_grown site (operation.BranchTruth true) (t ∷ []) one sides s.second) goals in
      let b = branched_by site (operation.BranchTruth true) (t ∷ []) one sides s.second in
      let takes = (branch_truth_tags (setting_of site) one.ctx.vars (t ∷ []) b.it.by.r true b.it.by.is).0 in
      fares_then (value call env e run) _ (value_fares site setting call calls env e st t one s.first rest assignment run stands)
      (λ p g.
      let it = one_operand site env one assignment run.store p.1.store t p.0 g in
      let fit : have_tags (p.0 ∷ []) (Flag ∷ []) ≡ true = subst (λ ws. have_tags (p.0 ∷ []) ws ≡ true) (sym takes) (tags_there (headers_of p.1.store) g.goes.given (p.0 ∷ []) (t ∷ []) it.have) in
      let truth = int_eq p.0.word (truth_word true) in
      let beside = branched_fares site setting env (operation.BranchTruth true) (t ∷ []) one g.goes.given p.1.store (p.0 ∷ []) it.stands it.have it.below
      (λ r e. (branch_truth_tags (setting_of site) one.ctx.vars (t ∷ []) r true e).1) truth refl sides s.second named in
      decided_fares sides assignment run.store p.0 p.1 fit (goes_behind site env one (side_state truth sides) assignment run.store p.1.store p.1.store g.goes beside))

  -- a truth value that is the comparison's
  record Compared (sides : Sides) (assignment : List ℤ) (store : Blocks) (v : Value) (new : Run L) : Type 0 where
    truth : Truth
    is : (let x : Value = record { tag = Flag; word = truth_word truth } in x) ≡ v
    goes : Beside sides assignment store truth new

  compared_gives : (c : ℕ) (t u : Ty) (st : State) (sides : Sides) (a b : Value) → branched site (operation.Branch c) (t ∷ u ∷ []) st ≡ Ok sides → SidesNamed sides → (assignment : List ℤ)
      (run : Run L) → Operands site st env assignment run.store (t ∷ u ∷ []) (a ∷ b ∷ [])
      → Fares (Compared sides assignment run.store) (value_by (operation.Compare c) (Number ∷ Number ∷ []) Flag (a ∷ b ∷ []) run)
  unfolding value_by words_of
  compared_gives c t u st sides a b is named assignment run it =
      let br = branched_by site (operation.Branch c) (t ∷ u ∷ []) st sides is in
      let takes = (branch_tags (setting_of site) st.ctx.vars (t ∷ u ∷ []) br.it.by.r c br.it.by.is).0 in
      let fit : have_tags (a ∷ b ∷ []) (Number ∷ Number ∷ []) ≡ true =
      subst (λ ws. have_tags (a ∷ b ∷ []) ws ≡ true) (sym takes) (tags_there (headers_of run.store) assignment (a ∷ b ∷ []) (t ∷ u ∷ []) it.have) in
      let beside = branched_fares site setting env (operation.Branch c) (t ∷ u ∷ []) st assignment run.store (a ∷ b ∷ []) it.stands it.have it.below
      (λ r e. (branch_tags (setting_of site) st.ctx.vars (t ∷ u ∷ []) r c e).1) (compares c a.word b.word) refl sides is named in
      subst (λ f. Fares (Compared sides assignment run.store) (value_if f no_cells (operation.Compare c) Flag (a ∷ b ∷ []) run)) (sym fit)
      (record { is = record { truth = compares c a.word b.word; is = refl; goes = beside } })

  related_gives : (r : Rel) (t u : Ty) (st : State) (sides : Sides) (a b : Value) → branched site (operation.Branch (comparison_of r)) (in_order r t u) st ≡ Ok sides → SidesNamed sides
      → (assignment : List ℤ) (run : Run L) → Operands site st env assignment run.store (t ∷ u ∷ []) (a ∷ b ∷ []) → Fares (Compared sides assignment run.store) (related r a b run)
  related_gives rel.Lt t u st sides a b is named assignment run it = compared_gives 0 t u st sides a b is named assignment run it
  related_gives rel.Le t u st sides a b is named assignment run it = compared_gives 1 t u st sides a b is named assignment run it
  related_gives rel.Gt t u st sides a b is named assignment run it =
      compared_gives 0 u t st sides b a is named assignment run (turned_operands site setting env st t st assignment run t u a b it)
  related_gives rel.Ge t u st sides a b is named assignment run it =
      compared_gives 1 u t st sides b a is named assignment run (turned_operands site setting env st t st assignment run t u a b it)
  related_gives rel.Eq t u st sides a b is named assignment run it = compared_gives 2 t u st sides a b is named assignment run it
  related_gives rel.Ne t u st sides a b is named assignment run it = compared_gives 3 t u st sides a b is named assignment run it

  decide_compared : (sides : Sides) (assignment : List ℤ) (store : Blocks) (v : Value) (run : Run L) → Compared sides assignment store v run → Fares (Beside sides assignment store) (decided v run)
  unfolding decided words_of have_tags
  decide_compared sides assignment store v run c = subst (λ x. Fares (Beside sides assignment store) (decided x run)) c.is (by_truth c.truth c.goes)
    where
      by_truth : (truth : Truth) → Beside sides assignment store truth run
          → Fares (Beside sides assignment store) (decided (let x : Value = record { tag = Flag; word = truth_word truth } in x) run)
      by_truth true goes = record { is = goes }
      by_truth false goes = record { is = goes }

  compare_fares : (r : Rel) (left right : core.Expr) (st : State) (sides : Sides) → leaf site (core.Compare r left right) st ≡ Ok sides → SidesNamed sides → GoalsHold sides.after.goals
      → (assignment : List ℤ) (run : Run L) → Stands site st env assignment run.store → Fares (Beside sides assignment run.store) (holds call env (core.Leaf (core.Compare r left right)) run)
  unfolding leaf holds value goes_behind goes_on
  compare_fares r left right st sides is named goals assignment run stands =
      let s = then_ok (operand site left st) _ sides is in
      let t = s.value.0 in
      let one = s.value.1 in
      let w = then_ok (operand site right one) _ sides s.second in
      let u = w.value.0 in
      let two = w.value.1 in
      let rest = grown_goals two sides.after (branched_grown site (operation.Branch (comparison_of r)) (in_order r t u) two sides w.second) goals in
      let onward = expression_grown site right one u two w.first in
      fares_then {P = Compared sides assignment run.store} (value call env (core.Compare r left right) run) _
      (fares_then (value call env left run) _ (value_fares site setting call calls env left st t one s.first (grown_goals one two onward rest) assignment run stands)
      (λ p g. fares_then (value call env right p.1) _ (value_fares site setting call calls env right one u two w.first rest g.goes.given p.1 g.goes.stands)
      (λ q h.
      let it = more_operands site env one two g.goes.given p.1.store q.1.store (t ∷ []) (p.0 ∷ []) u q.0 onward.later.vars (one_operand site env one assignment run.store p.1.store t p.0 g) h in
      let first = goes_behind site env one two assignment run.store p.1.store q.1.store g.goes h.goes in
      fares_on (related r p.0 q.0 q.1)
      (λ v new c. record { truth = c.truth; is = c.is; goes = goes_behind site env two (side_state c.truth sides) assignment run.store q.1.store new.store first c.goes })
      (related_gives r t u two sides p.0 q.0 w.second named h.goes.given q.1 it))))
      (λ d c. decide_compared sides assignment run.store d.0 d.1 c)

  leaf_fares : (e : core.Expr) (st : State) (sides : Sides) → leaf site e st ≡ Ok sides → SidesNamed sides → GoalsHold sides.after.goals → (assignment : List ℤ) (run : Run L)
      → Stands site st env assignment run.store → Fares (Beside sides assignment run.store) (holds call env (core.Leaf e) run)
  unfolding leaf
  leaf_fares (core.Compare r left right) st sides is named goals assignment run stands = compare_fares r left right st sides is named goals assignment run stands
  leaf_fares e st sides is named goals assignment run stands = truth_fares e st sides is named goals assignment run stands

  -- ---- tests

  -- what all parts say, and what any does
  abbrev all_sides : List Linear → Sides → Sides
  all_sides rows last = record { on_true = last.on_true; on_false = rows; after = last.after }

  abbrev any_sides : List Linear → Sides → Sides
  any_sides rows last = record { on_true = rows; on_false = last.on_false; after = last.after }

  noted_beside : (rows : List Linear) (sides : Sides) (assignment : List ℤ) (store : Blocks) (truth : Truth) (new : Run L) → Beside sides assignment store truth new
      → Beside (record sides { after = noting_state rows sides.after }) assignment store truth new
  unfolding noting_state
  noted_beside rows sides assignment store true new g = same_goes site env (side_state true sides) (side_state true (record sides { after = noting_state rows sides.after })) assignment store new.store refl refl g
  noted_beside rows sides assignment store false new g = same_goes site env (side_state false sides) (side_state false (record sides { after = noting_state rows sides.after })) assignment store new.store refl refl g

  -- a part that goes on, and one that ends the test
  module _ (st : State) (assignment : List ℤ) (old : Blocks) (begins : Stands site st env assignment old) where
    all_next : (others : core.Tests) (more last : Sides) (truth : Truth) (run : Run L) → On more.after last.after → NamesSoFar (on_side st.ctx.rows last.after)
        → Goes site (side_state truth more) env assignment old run.store
        → (Goes site (on_side more.on_true more.after) env assignment old run.store → Fares (Beside (all_sides st.ctx.rows last) assignment old) (all_hold call env others run))
        → Fares (Beside (all_sides st.ctx.rows last) assignment old) (unless true truth (λ st. all_hold call env others st) run)
    all_next others more last true run on named goes next = next goes
    all_next others more last false run on named goes next =
        record { is = ends_early site env st (side_state false more) last.after assignment old run.store begins goes (record { vars = on.vars; goals = on.goals; types = on.types }) named }

    any_next : (others : core.Tests) (more last : Sides) (truth : Truth) (run : Run L) → On more.after last.after → NamesSoFar (on_side st.ctx.rows last.after)
        → Goes site (side_state truth more) env assignment old run.store
        → (Goes site (on_side more.on_false more.after) env assignment old run.store → Fares (Beside (any_sides st.ctx.rows last) assignment old) (any_holds call env others run))
        → Fares (Beside (any_sides st.ctx.rows last) assignment old) (unless false truth (λ st. any_holds call env others st) run)
    any_next others more last false run on named goes next = next goes
    any_next others more last true run on named goes next =
        record { is = ends_early site env st (side_state true more) last.after assignment old run.store begins goes (record { vars = on.vars; goals = on.goals; types = on.types }) named }

  flipped : (sides : Sides) (assignment : List ℤ) (store : Blocks) (truth : Truth) (new : Run L) → Beside sides assignment store truth new
      → Beside (record { on_true = sides.on_false; on_false = sides.on_true; after = sides.after }) assignment store (not truth) new
  flipped sides assignment store true new g = g
  flipped sides assignment store false new g = g

  noted_goals : (rows : List Linear) (st : State) → GoalsHold (noting_state rows st).goals → GoalsHold st.goals
  unfolding noting_state
  noted_goals rows st hold = hold

  begin_goes : (st : State) (assignment : List ℤ) (run : Run L) → Stands site st env assignment run.store → Goes site (on_side st.ctx.rows st) env assignment run.store run.store
  begin_goes st assignment run stands = same_goes site env st (on_side st.ctx.rows st) assignment run.store run.store refl refl (stays_here site env st assignment run.store stands)

  -- names of the rows in front of the test, over all index variables so far
  before_named : (st : State) (last : State) → NamesSoFar st → On st last → NamesSoFar (on_side st.ctx.rows last)
  before_named st last names on =
      (let le = on.vars in
      record {
        rows = rows_more st.ctx.vars last.ctx.vars st.ctx.rows le names.rows;
        types = subst (λ (ts : List (ℕ × Ty)). All (λ e. TypeBelow last.ctx.vars e.1) ts) (sym on.types) (types_more st.ctx.vars last.ctx.vars st.types le names.types);
      })

  mutual
    unfolding tested holds goes_behind goes_on

    pub tested_fares : (test : core.Test) (st : State) (sides : Sides) → tested site test st ≡ Ok sides → GoalsHold sides.after.goals → (assignment : List ℤ) (run : Run L)
        → Stands site st env assignment run.store → Fares (Beside sides assignment run.store) (holds call env test run)
    tested_fares (core.Leaf e) st sides is goals assignment run stands =
        leaf_fares e st sides is (test_named site setting (core.Leaf e) st sides stands.own stands.named is) goals assignment run stands
    tested_fares (core.All parts) st sides is goals assignment run stands =
        let begin : Sides = record { on_true = st.ctx.rows; on_false = st.ctx.rows; after = st } in
        let s = then_ok (all_true site parts begin) _ sides is in
        let last = s.value in
        let same = ok_same (record { on_true = last.on_true; on_false = st.ctx.rows; after = noting_state st.ctx.rows last.after }) sides s.second in
        let hold = noted_goals st.ctx.rows last.after (subst (λ (x : Sides). GoalsHold x.after.goals) (sym same) goals) in
        let named = before_named st last.after stands.named (all_true_on site parts begin last s.first) in
        subst (λ x. Fares (Beside x assignment run.store) (all_hold call env parts run)) same
        (fares_on (all_hold call env parts run) (λ truth new g. noted_beside st.ctx.rows (all_sides st.ctx.rows last) assignment run.store truth new g)
        (all_fare parts st assignment run.store stands begin last s.first hold named run (begin_goes st assignment run stands)))
    tested_fares (core.Any parts) st sides is goals assignment run stands =
        let begin : Sides = record { on_true = st.ctx.rows; on_false = st.ctx.rows; after = st } in
        let s = then_ok (all_false site parts begin) _ sides is in
        let last = s.value in
        let same = ok_same (record { on_true = st.ctx.rows; on_false = last.on_false; after = noting_state st.ctx.rows last.after }) sides s.second in
        let hold = noted_goals st.ctx.rows last.after (subst (λ (x : Sides). GoalsHold x.after.goals) (sym same) goals) in
        let named = before_named st last.after stands.named (all_false_on site parts begin last s.first) in
        subst (λ x. Fares (Beside x assignment run.store) (any_holds call env parts run)) same
        (fares_on (any_holds call env parts run) (λ truth new g. noted_beside st.ctx.rows (any_sides st.ctx.rows last) assignment run.store truth new g)
        (any_fare parts st assignment run.store stands begin last s.first hold named run (begin_goes st assignment run stands)))
    tested_fares (core.Not part) st sides is goals assignment run stands =
        let s = then_ok (tested site part st) _ sides is in
        let inner = s.value in
        let same = ok_same (record { on_true = inner.on_false; on_false = inner.on_true; after = inner.after }) sides s.second in
        let hold = subst (λ (x : Sides). GoalsHold x.after.goals) (sym same) goals in
        subst (λ x. Fares (Beside x assignment run.store) (holds call env (core.Not part) run)) same
        (fares_then (holds call env part run) _ (tested_fares part st inner s.first hold assignment run stands)
        (λ p g. record { is = flipped inner assignment run.store p.0 p.1 g }))

    all_fare : (parts : core.Tests) (st : State) (assignment : List ℤ) (old : Blocks) → Stands site st env assignment old → (sides last : Sides) → all_true site parts sides ≡ Ok last
        → GoalsHold last.after.goals → NamesSoFar (on_side st.ctx.rows last.after) → (run : Run L) → Goes site (on_side sides.on_true sides.after) env assignment old run.store
        → Fares (Beside (all_sides st.ctx.rows last) assignment old) (all_hold call env parts run)
    all_fare core.NoTest st assignment old begins sides last is goals named run goes =
        record { is = subst (λ (x : Sides). Goes site (on_side x.on_true x.after) env assignment old run.store) (ok_same sides last is) goes }
    all_fare (core.ATest part others) st assignment old begins sides last is goals named run goes =
        let here = on_side sides.on_true sides.after in
        let s = then_ok (tested site part here) _ last is in
        let more = s.value in
        let on = all_true_on site others more last s.second in
        fares_then (holds call env part run) _ (tested_fares part here more s.first (on.goals goals) goes.given run goes.stands)
        (λ p g. all_next st assignment old begins others more last p.0 p.1 on named (goes_behind site env here (side_state p.0 more) assignment old run.store p.1.store goes g)
        (λ further. all_fare others st assignment old begins more last s.second goals named p.1 further))

    any_fare : (parts : core.Tests) (st : State) (assignment : List ℤ) (old : Blocks) → Stands site st env assignment old → (sides last : Sides) → all_false site parts sides ≡ Ok last
        → GoalsHold last.after.goals → NamesSoFar (on_side st.ctx.rows last.after) → (run : Run L) → Goes site (on_side sides.on_false sides.after) env assignment old run.store
        → Fares (Beside (any_sides st.ctx.rows last) assignment old) (any_holds call env parts run)
    any_fare core.NoTest st assignment old begins sides last is goals named run goes =
        record { is = subst (λ (x : Sides). Goes site (on_side x.on_false x.after) env assignment old run.store) (ok_same sides last is) goes }
    any_fare (core.ATest part others) st assignment old begins sides last is goals named run goes =
        let here = on_side sides.on_false sides.after in
        let s = then_ok (tested site part here) _ last is in
        let more = s.value in
        let on = all_false_on site others more last s.second in
        fares_then (holds call env part run) _ (tested_fares part here more s.first (on.goals goals) goes.given run goes.stands)
        (λ p g. any_next st assignment old begins others more last p.0 p.1 on named (goes_behind site env here (side_state p.0 more) assignment old run.store p.1.store goes g)
        (λ further. any_fare others st assignment old begins more last s.second goals named p.1 further))
