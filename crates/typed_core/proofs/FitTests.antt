-- A test is stopped by a limit at most, and leaves the types as they are.
use Rattle.std.proofs.Common.{◌≡◌, ℕ, List, [], ◌∷◌, true, false, None}
use Rattle.state_types.specs.declared.types.Ty.{Ty}
use Rattle.operation_rules.specs.Applied.{all_assuming}
use Rattle.operation_rules.specs.Faults.{filled}
use Rattle.operation_rules.specs.Rules.{rule}
use Rattle.operation_rules.specs.Sides.{side}
use Rattle.operation_rules.specs.declared.operation.Operation.{Operation}
use Rattle.operation_rules.specs.declared.operation.Operation.TheVariants.{Branch, BranchTruth}
use Rattle.xanadu_tree.specs.declared.expr.Rel.{Rel}
use Rattle.xanadu_tree.specs.declared.expr.Rel.TheVariants as rel
use Rattle.xanadu_tree.specs.declared.types.Kind.TheVariants as kind
use Rattle.xanadu_tree.specs.KindRules.{Setting, HasKind, IsTest, AreTests}
use Rattle.xanadu_tree.specs.Plain as core
use Rattle.typed_core.specs.Constructs.{setting_of, state_by}
use Rattle.typed_core.specs.Limits.{by_rule}
use Rattle.typed_core.specs.Operands.{operand}
use Rattle.typed_core.specs.Operators.{comparison_of, in_order}
use Rattle.typed_core.specs.States.{Site, State, noting_state}
use Rattle.typed_core.specs.Tests.{Sides, branched, truth_leaf, leaf, on_side, tested, all_true, all_false}
use Rattle.typed_core.proofs.LimitedAnswers.{Fits, Rules, then_answers}
use Rattle.typed_core.proofs.TypeKinds.{ty_kind}
use Rattle.typed_core.proofs.KnownTypes.{Knows}
use Rattle.typed_core.proofs.FitStates.{assumed_fits}
use Rattle.typed_core.proofs.FitRules.{GivesKinds, branch_rules, branch_truth_rules}
use Rattle.typed_core.proofs.FitConstructs.{state_by_fits}
use Rattle.typed_core.proofs.FitOperands.{Suits, operand_fits}

abbrev pub KnowsBehind : Setting → (visible : List ℕ) → Sides → Type 0
KnowsBehind set visible sides = Knows set.kinds visible sides.after.types

module _ (set : Setting) (site : Site) (suits : Suits set site) (visible : List ℕ) where
  branched_fits : (o : Operation) (types : List Ty) (st : State) → Rules (GivesKinds []) (rule (setting_of site) o types st.ctx.vars) → Knows set.kinds visible st.types
      → Fits (KnowsBehind set visible) (branched site o types st)
  unfolding branched
  branched_fits o types st ruled knows =
      then_answers (state_by site None o types st) _ (state_by_fits (Knows set.kinds visible) site None o types st ruled knows)
      (λ more k. then_answers (by_rule (filled (all_assuming (side true o types) more.ctx))) _ (assumed_fits (side true o types) more.ctx)
      (λ one u. then_answers (by_rule (filled (all_assuming (side false o types) more.ctx))) _ (assumed_fits (side false o types) more.ctx) (λ two v. record { is = k })))

  truth_leaf_fits : (e : core.Expr) (st : State) → HasKind set visible e kind.Bool → Knows set.kinds visible st.types → Fits (KnowsBehind set visible) (truth_leaf site e st)
  unfolding truth_leaf
  truth_leaf_fits e st h knows =
      then_answers (operand site e st) _ (operand_fits set site suits visible e kind.Bool st h knows)
      (λ r g. branched_fits (BranchTruth true) (r.0 ∷ []) r.1 (branch_truth_rules (setting_of site) r.1.ctx.vars true r.0 (g.0 tt)) g.1)

  sides_rules : (r : Rel) (t u : Ty) (first : ℕ) → kind.Int ≡ ty_kind t → kind.Int ≡ ty_kind u
      → Rules (GivesKinds []) (rule (setting_of site) (Branch (comparison_of r)) (in_order r t u) first)
  sides_rules rel.Lt t u first h g = branch_rules (setting_of site) first 0 t u h g
  sides_rules rel.Le t u first h g = branch_rules (setting_of site) first 1 t u h g
  sides_rules rel.Gt t u first h g = branch_rules (setting_of site) first 0 u t g h
  sides_rules rel.Ge t u first h g = branch_rules (setting_of site) first 1 u t g h
  sides_rules rel.Eq t u first h g = branch_rules (setting_of site) first 2 t u h g
  sides_rules rel.Ne t u first h g = branch_rules (setting_of site) first 3 t u h g

  compare_fits : (r : Rel) (left right : core.Expr) (st : State) → HasKind set visible left kind.Int → HasKind set visible right kind.Int
      → Knows set.kinds visible st.types → Fits (KnowsBehind set visible) (leaf site (core.Compare r left right) st)
  unfolding leaf
  compare_fits r left right st h i knows =
      then_answers (operand site left st) _ (operand_fits set site suits visible left kind.Int st h knows)
      (λ p g. then_answers (operand site right p.1) _ (operand_fits set site suits visible right kind.Int p.1 i g.1)
      (λ q l. branched_fits (Branch (comparison_of r)) (in_order r p.0 q.0) q.1 (sides_rules r p.0 q.0 q.1.ctx.vars (g.0 tt) (l.0 tt)) l.1))

  leaf_fits : (e : core.Expr) (st : State) → HasKind set visible e kind.Bool → Knows set.kinds visible st.types → Fits (KnowsBehind set visible) (leaf site e st)
  unfolding leaf HasKind
  leaf_fits (core.Compare r left right) st h knows = compare_fits r left right st h.1 h.2 knows
  leaf_fits e st h knows = truth_leaf_fits e st h knows

  mutual
    unfolding tested IsTest noting_state

    pub tested_fits : (test : core.Test) (st : State) → IsTest set visible test → Knows set.kinds visible st.types → Fits (KnowsBehind set visible) (tested site test st)
    tested_fits (core.Leaf e) st h knows = leaf_fits e st h knows
    tested_fits (core.All parts) st h knows =
        let begin : Sides = record { on_true = st.ctx.rows; on_false = st.ctx.rows; after = st } in
        then_answers (all_true site parts begin) _ (all_true_fits parts begin h.1 knows) (λ last l. record { is = l })
    tested_fits (core.Any parts) st h knows =
        let begin : Sides = record { on_true = st.ctx.rows; on_false = st.ctx.rows; after = st } in
        then_answers (all_false site parts begin) _ (all_false_fits parts begin h.1 knows) (λ last l. record { is = l })
    tested_fits (core.Not part) st h knows = then_answers (tested site part st) _ (tested_fits part st h knows) (λ sides l. record { is = l })

    all_true_fits : (parts : core.Tests) (sides : Sides) → AreTests set visible parts → KnowsBehind set visible sides → Fits (KnowsBehind set visible) (all_true site parts sides)
    all_true_fits core.NoTest sides h knows = record { is = knows }
    all_true_fits (core.ATest part others) sides h knows =
        then_answers (tested site part (on_side sides.on_true sides.after)) _ (tested_fits part (on_side sides.on_true sides.after) h.0 knows)
        (λ more l. all_true_fits others more h.1 l)

    all_false_fits : (parts : core.Tests) (sides : Sides) → AreTests set visible parts → KnowsBehind set visible sides → Fits (KnowsBehind set visible) (all_false site parts sides)
    all_false_fits core.NoTest sides h knows = record { is = knows }
    all_false_fits (core.ATest part others) sides h knows =
        then_answers (tested site part (on_side sides.on_false sides.after)) _ (tested_fits part (on_side sides.on_false sides.after) h.0 knows)
        (λ more l. all_false_fits others more h.1 l)
