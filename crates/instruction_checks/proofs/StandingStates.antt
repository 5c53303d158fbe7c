-- The state behind an instruction stands as the state before it did: the types of places name variables that are there.
use Rattle.std.proofs.Common.{◌≡◌, ◌∙◌, ℕ, ◌+◌, ◌≤◌, List, [], ◌∷◌, map, Bool as Truth, true, false, Result, Ok, Err, refl, sym, ap, subst, arith}
use Rattle.std.specs.Prelude.{IfOk}
use Rattle.std.specs.List.{All}
use Rattle.index_sorts.specs.Context.{IndexContext, with_variables}
use Rattle.xan_lin.specs.Linear.{Linear}
use Rattle.proof_lines.specs.declared.line.Line.{Line}
use Rattle.state_types.specs.PlaceTypes.{type_at}
use Rattle.state_types.specs.Tables.{IsClosed}
use Rattle.state_types.specs.Types.{TypeBelow}
use Rattle.state_types.specs.declared.state.StateType.{StateType}
use Rattle.state_types.specs.declared.types.Ty.{Ty}
use Rattle.state_types.proofs.Thens.{then_ok, ok_same}
use Rattle.operation_rules.specs.Applied.{Ruled, all_assuming, all_there, applied, named}
use Rattle.operation_rules.specs.Faults.{filled}
use Rattle.operation_rules.specs.Named.{IsTypeNamed}
use Rattle.operation_rules.specs.Rules.{Setting, gives, matching, returned, rule as rule_for}
use Rattle.operation_rules.specs.declared.operation.Operation.{Operation}
use Rattle.operation_rules.specs.declared.operation.Operation.TheVariants.{Return}
use Rattle.operation_rules.specs.declared.rule.Rule.{Rule}
use Rattle.operation_rules.proofs.RuleFacts.{parts_of, filled_ok}
use Rattle.operation_rules.proofs.RuleNames.{rule_names}
use Rattle.dtal_code.specs.Declarations.{state_of}
use Rattle.dtal_code.specs.Instructions.{Instruction}
use Rattle.dtal_code.specs.Passing.{asks_lines, are_different, label_at, side_verdict, with_types, read_types}
use Rattle.dtal_code.specs.declared.refusal.Rule.TheVariants as rule
use Rattle.dtal_code.specs.Verdicts.{Verdict, asks, by_rule, found}
use Rattle.dtal_code.proofs.TypesBelow.{ruled_ok, there_below, all_written, types_more, given_below, assumed_vars}
use Rattle.instruction_checks.specs.Steps.{kept_by, reads_by, goes_on_by, edge_by, edge_rows_by, kinds_by, goes_to_by}
use Rattle.instruction_checks.specs.Code.{Gives}
use Rattle.instruction_checks.specs.Views.{IsStanding}
use Rattle.instruction_checks.specs.declared.error.Broken.{Broken}

-- ---- types of places

pub read_below : (n : ℕ) (places : List (ℕ × Ty)) (reads : List ℕ) (types : List Ty) → by_rule (all_there (map (λ place. type_at place places) reads)) ≡ Ok types
    → All (λ e. TypeBelow n e.1) places → All (TypeBelow n) types
read_below n places reads types e all = there_below n places reads types (ruled_ok (all_there (map (λ place. type_at place places) reads)) types e) all

-- ---- an operation

-- what is known of the types that are given, and of the context that goes on
pub record Kept (ctx : IndexContext) (types : List Ty) (more : IndexContext) : Type 0 where
  pub vars : ctx.vars ≤ more.vars
  pub below : All (TypeBelow more.vars) types

applied_kept : (st : Setting) (op : Operation) (types : List Ty) (ctx : IndexContext) (r : Rule) (given : Ruled) → All IsClosed st.table → st.own.vars ≤ ctx.vars
    → All (TypeBelow ctx.vars) types → rule_for st op types ctx.vars ≡ Ok r → applied r ctx ≡ Ok given → Kept ctx given.types given.ctx
applied_kept st op types ctx r given closed own below is e =
    let parts = parts_of r ctx given e in
    let same : given.ctx.vars ≡ ctx.vars + r.fresh = assumed_vars r.assumed (with_variables ctx r.fresh) given.ctx parts.assumed in
    let names = rule_names st op types ctx.vars r closed own is below in
    record {
      vars = omega (arith, same);
      below = given_below given.ctx.vars r.given given.types parts.given (subst (λ n. All (IsTypeNamed n) r.given) (sym same) names.given);
    }

pub kept_kept : (st : Setting) (op : Operation) (types : List Ty) (ctx : IndexContext) (by : List (List Line)) (kept : List Ty × IndexContext) → All IsClosed st.table
    → st.own.vars ≤ ctx.vars → All (TypeBelow ctx.vars) types → kept_by st op types ctx by ≡ Ok kept → Kept ctx kept.0 kept.1
unfolding kept_by
kept_kept st op types ctx by kept closed own below e =
    let one = then_ok (by_rule (rule_for st op types ctx.vars)) _ kept e in
    let two = then_ok (by_rule (applied one.value ctx)) _ kept one.second in
    let three = then_ok (asks_lines ctx one.value.demands by) _ kept two.second in
    let same = ok_same (two.value.types, two.value.ctx) kept three.second in
    subst (λ k. Kept ctx k.0 k.1) same
    (applied_kept st op types ctx one.value two.value closed own below (ruled_ok (rule_for st op types ctx.vars) one.value one.first) (ruled_ok (applied one.value ctx) two.value two.first))

-- the state whose places are written stands
pub written_stands : (own : ℕ) (ctx more : IndexContext) (writes : List ℕ) (types : List Ty) (places : List (ℕ × Ty)) → own ≤ ctx.vars → All (λ e. TypeBelow ctx.vars e.1) places
    → Kept ctx types more → IsStanding own (record { ctx = more; places = with_types writes types places })
written_stands own ctx more writes types places le all kept =
    let grown = kept.vars in
    record { own_vars = omega (arith, le, grown); below = all_written more.vars writes types places kept.below (types_more ctx.vars more.vars places grown all) }

-- ---- the side of an edge that goes on

side_vars : (taken : Truth) (state : StateType) (op : Operation) (types : List Ty) (more : IndexContext) → side_verdict taken state op types ≡ Ok more → more.vars ≡ state.ctx.vars
side_vars taken state op types more e = (let r = ruled_ok (filled (all_assuming _ state.ctx)) more e in assumed_vars _ state.ctx more (filled_ok (all_assuming _ state.ctx) more r))

pub edge_vars : (st : Setting) (state target : StateType) (op : Operation) (types : List Ty) (values : List (ℕ × Linear)) (by : List (List Line)) (left : IndexContext)
    → edge_by st state target op types values by ≡ Ok left → left.vars ≡ state.ctx.vars
unfolding edge_by
edge_vars st state target op types values by left e =
    let one = then_ok (edge_rows_by st.own.vars state target values) _ left e in
    let two = then_ok (side_verdict true state op types) _ left one.second in
    let three = then_ok (side_verdict false state op types) _ left two.second in
    let four = then_ok (asks_lines two.value one.value by) _ left three.second in
    subst (λ c. c.vars ≡ state.ctx.vars) (ok_same three.value left four.second) (side_vars false state op types three.value three.first)

pub left_stands : (own : ℕ) (ctx left : IndexContext) (places : List (ℕ × Ty)) → left.vars ≡ ctx.vars → own ≤ ctx.vars → All (λ e. TypeBelow ctx.vars e.1) places
    → IsStanding own (record { ctx = left; places = places })
left_stands own ctx left places same le all =
    record { own_vars = omega (arith, same, le); below = types_more ctx.vars left.vars places (omega (arith, same)) all }

-- ---- whole instructions

reads_ok : (st : Setting) (state : StateType) (i : Instruction) (types : List Ty) → reads_by st state i ≡ Ok types → by_rule (all_there (read_types state i.reads)) ≡ Ok types
unfolding reads_by
reads_ok st state i types e =
    let one = then_ok (by_rule (named st i.operation)) _ types e in
    let two = then_ok (asks (are_different i.writes) rule.Place) _ types one.second in
    two.second

pub reads_below : (st : Setting) (state : StateType) (i : Instruction) (types : List Ty) → All (λ e. TypeBelow state.ctx.vars e.1) state.places → reads_by st state i ≡ Ok types
    → All (TypeBelow state.ctx.vars) types
reads_below st state i types all e = read_below state.ctx.vars state.places i.reads types (reads_ok st state i types e) all

pub goes_on_stands : (st : Setting) (state next : StateType) (i : Instruction) (by : List (List Line)) → All IsClosed st.table → IsStanding st.own.vars state
    → goes_on_by st state i by ≡ Ok next → IsStanding st.own.vars next
unfolding goes_on_by
goes_on_stands st state next i by closed stands e =
    let one = then_ok (reads_by st state i) _ next e in
    let below = reads_below st state i one.value stands.below one.first in
    let two = then_ok (kept_by st i.operation one.value state.ctx by) _ next one.second in
    subst (λ s. IsStanding st.own.vars s) (ok_same (state_of two.value.1 (with_types i.writes two.value.0 state.places)) next two.second)
    (written_stands st.own.vars state.ctx two.value.1 i.writes two.value.0 state.places stands.own_vars stands.below
    (kept_kept st i.operation one.value state.ctx by two.value closed stands.own_vars below two.first))

pub goes_to_stands : (st : Setting) (labels : List StateType) (state next : StateType) (i : Instruction) (values : List (ℕ × Linear)) (by : List (List Line))
    → IsStanding st.own.vars state → goes_to_by st labels state i values by ≡ Ok next → IsStanding st.own.vars next
unfolding goes_to_by
goes_to_stands st labels state next i values by stands e =
    let one = then_ok (found (label_at labels i.target) rule.Target) _ next e in
    let two = then_ok (by_rule (all_there (read_types state i.reads))) _ next one.second in
    let three = then_ok (kinds_by st i.operation two.value state.ctx.vars) _ next two.second in
    let four = then_ok (edge_by st state one.value i.operation two.value values by) _ next three.second in
    subst (λ s. IsStanding st.own.vars s) (ok_same (state_of four.value state.places) next four.second)
    (left_stands st.own.vars state.ctx four.value state.places (edge_vars st state one.value i.operation two.value values by four.value four.first) stands.own_vars stands.below)

-- ---- a return

nothing_more : (r made : Rule) (ctx more : IndexContext) → made.fresh ≡ 0 → made.assumed ≡ [] → made ≡ r → all_assuming r.assumed (with_variables ctx r.fresh) ≡ Ok more → more ≡ ctx
unfolding all_assuming
nothing_more r made ctx more fresh assumed same e =
    let zero_vars : ctx.vars + 0 ≡ ctx.vars = omega arith in
    let here : all_assuming [] (with_variables ctx 0) ≡ Ok more =
    subst (λ n. all_assuming [] (with_variables ctx n) ≡ Ok more) fresh
    (subst (λ rows. all_assuming rows (with_variables ctx made.fresh) ≡ Ok more) assumed
    (subst (λ x. all_assuming x.assumed (with_variables ctx x.fresh) ≡ Ok more) (sym same) e)) in
    sym (ok_same (with_variables ctx 0) more here) ∙ ap (λ n. record ctx { vars = n }) zero_vars

pub back_same : (st : Setting) (op : Operation) (types : List Ty) (ctx : IndexContext) (by : List (List Line)) (kept : List Ty × IndexContext) → op ≡ Return
    → kept_by st op types ctx by ≡ Ok kept → kept.1 ≡ ctx
unfolding kept_by rule_for returned
back_same st op types ctx by kept is e =
    let here : kept_by st Return types ctx by ≡ Ok kept = subst (λ o. kept_by st o types ctx by ≡ Ok kept) is e in
    let one = then_ok (by_rule (rule_for st Return types ctx.vars)) _ kept here in
    let two = then_ok (by_rule (applied one.value ctx)) _ kept one.second in
    let three = then_ok (asks_lines ctx one.value.demands by) _ kept two.second in
    let made = then_ok (matching st.own.vars (st.own.vars + st.own.result_vars) st.own.result_rows (st.own.result ∷ []) types) _ one.value
    (ruled_ok (rule_for st Return types ctx.vars) one.value one.first) in
    let parts = parts_of one.value ctx two.value (ruled_ok (applied one.value ctx) two.value two.first) in
    sym (ap (λ k. k.1) (ok_same (two.value.types, two.value.ctx) kept three.second))
    ∙ nothing_more one.value (gives made.value.rows []) ctx two.value.ctx refl refl (ok_same (gives made.value.rows []) one.value made.second) parts.assumed

-- ---- what is known where a function gives what its definition gives

pub gives_so : {X Y : Type 0} (view : X → Y) (result : Result X Broken) (m : Verdict Y) (P : Y → Type 0) → Gives view result m → ((y : Y) → m ≡ Ok y → P y) → IfOk result (λ x. P (view x))
gives_so view (Ok x) m P e h = h (view x) e
gives_so view (Err error) m P e h = tt
