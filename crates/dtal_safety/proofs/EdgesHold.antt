-- An edge leads to a state type that holds, and the variables of the signature keep their values.
use Rattle.std.proofs.Common.{◌≡◌, ◌∙◌, ℕ, zero, suc, ◌+◌, ◌≤◌, ◌<◌, ◌==◌, ℤ, pos, cond, get_or, List, [], ◌∷◌, take, length, nat_lt, Bool as Test, true, false, Some, None, Result, Ok, Err, refl, sym, ap, subst, arith}
use Rattle.std.specs.Prelude.{nat_le}
use Rattle.std.specs.List.{All, list_all}
use Rattle.std.proofs.lemmas.Bool.{leb-true, and_parts}
use Rattle.std.proofs.lemmas.Bool.Decides.{Decides-eqb}
use Rattle.std.proofs.lemmas.Int.{ints}
use Rattle.std.proofs.lemmas.List.Elements.{All-head, All-tail}
use Rattle.xan_seq.proofs.NumberTests.{less}
use Rattle.index_sorts.specs.Context.{IndexContext}
use Rattle.index_sorts.specs.Entails.{AllHold}
use Rattle.xan_lin.specs.Linear.{Linear, variable_form}
use Rattle.xan_lin.specs.Subst.{listed, listed_or_own, replacement, values_from, given_values}
use Rattle.xan_lin.specs.Value.{value_at, value_of_terms, value_of}
use Rattle.proof_lines.specs.declared.line.Line.{Line}
use Rattle.state_types.specs.Answers.{◌>>=◌}
use Rattle.state_types.specs.Matching.{pairs_at, demanded, meeting}
use Rattle.state_types.specs.PlaceTypes.{type_at}
use Rattle.state_types.specs.Sound.{PlaceFits, IsMet}
use Rattle.state_types.specs.Words.{Headers, HasType}
use Rattle.state_types.specs.declared.error.StateError.{StateError}
use Rattle.state_types.specs.declared.error.StateError.TheVariants as state_error
use Rattle.state_types.specs.declared.state.StateType.{StateType}
use Rattle.state_types.specs.declared.types.Ty.{Ty}
use Rattle.state_types.proofs.Edges.{edge_sound, type_at-all}
use Rattle.state_types.proofs.Thens.{then_ok}
use Rattle.operation_rules.specs.Faults.{of_match}
use Rattle.operation_rules.specs.Rules.{Setting}
use Rattle.dtal_code.specs.Declarations.{state_of}
use Rattle.dtal_code.specs.Passing.{is_listed, value_is_below, edge_verdict, asks_lines}
use Rattle.dtal_code.specs.Verdicts.{asks, by_rule}
use Rattle.dtal_code.specs.declared.refusal.Rule.TheVariants as rule
use Rattle.dtal_code.proofs.NamedDeclarations.{asked, test_all}
use Rattle.dtal_code.proofs.TypesBelow.{ruled_ok}
use Rattle.dtal_safety.specs.Fitting.{word_at, Holds}
use Rattle.dtal_safety.proofs.LinesHold.{all_entailed}
use Rattle.dtal_safety.proofs.ProperStates.{IsProper}

-- ---- variables that are not listed

pub one_value : (values : List ℤ) (var : ℕ) → value_of values (variable_form var) ≡ value_at values var
unfolding value_of_terms
one_value values var = omega (arith, ints)

not_listed : (var low : ℕ) (values : List (ℕ × Linear)) → All (λ v. low ≤ v.0) values → var < low → listed var values ≡ None
not_listed var low [] all h = refl
not_listed var low (v ∷ values) all h =
    let from : low ≤ v.0 = All-head (λ (x : ℕ × Linear). low ≤ x.0) v values all in
    apart (v.0 == var) refl from ∙ not_listed var low values (All-tail (λ (x : ℕ × Linear). low ≤ x.0) v values all) h
  where
    apart : (b : Test) → (v.0 == var) ≡ b → low ≤ v.0 → cond b (Some v.1) (listed var values) ≡ listed var values
    apart true e from = absurd (let same = (Decides-eqb v.0 var).0 e in let bad : ⊥ = omega (arith, same, from, h) in bad)
    apart false e from = refl

own_value : (assignment : List ℤ) (values : List (ℕ × Linear)) (below low var : ℕ) → All (λ v. low ≤ v.0) values → var < low → var < below
    → value_of assignment (replacement values below var) ≡ value_at assignment var
unfolding replacement
own_value assignment values below low var all h k =
    ap (λ o. value_of assignment (listed_or_own o below var)) (not_listed var low values all h)
    ∙ ap (λ b. value_of assignment (cond b (variable_form var) (record { terms = []; constant = pos 0 }))) (less var below k)
    ∙ one_value assignment var

-- from a number on
kept_from : (assignment : List ℤ) (values : List (ℕ × Linear)) (below low first count : ℕ) (rest : List ℤ) → All (λ v. low ≤ v.0) values → low ≤ below
    → ((k : ℕ) → get_or rest k (pos 0) ≡ value_at assignment (first + k)) → low ≤ first + length rest → low ≤ first + count
    → (n : ℕ) → first + n ≡ low → take n (values_from assignment values below first count) ≡ take n rest
unfolding values_from
kept_from assignment values below low first count rest all le same long many zero e = refl
kept_from assignment values below low first zero rest all le same long many (suc n) e = absurd (omega (arith, many, e))
kept_from assignment values below low first (suc count) [] all le same long many (suc n) e = absurd (omega (arith, long, e))
kept_from assignment values below low first (suc count) (x ∷ rest) all le same long many (suc n) e =
    let here : value_of assignment (replacement values below first) ≡ x =
    own_value assignment values below low first all (omega (arith, e)) (omega (arith, e, le)) ∙ ap (λ k. value_at assignment k) (let z : first ≡ first + 0 = omega arith in z) ∙ sym (same 0) in
    ap (λ y. y ∷ take n (values_from assignment values below (suc first) count)) here
    ∙ ap (λ ys. x ∷ ys) (kept_from assignment values below low (suc first) count rest all le
    (λ k. same (suc k) ∙ ap (λ j. value_at assignment j) (let z : first + suc k ≡ suc first + k = omega arith in z))
    (omega (arith, long)) (omega (arith, many)) n (omega (arith, e)))

pub kept_values : (assignment : List ℤ) (values : List (ℕ × Linear)) (below low vars : ℕ) → All (λ v. low ≤ v.0) values → low ≤ below → length assignment ≡ below → low ≤ vars
    → take low (given_values assignment values below vars) ≡ take low assignment
kept_values assignment values below low vars all le long many =
    kept_from assignment values below low 0 vars assignment all le (λ k. ap (λ j. value_at assignment j) (let z : k ≡ 0 + k = omega arith in z))
    (omega (arith, le, long)) (omega (arith, many)) low (omega arith)

-- ---- the edge

of_match_ok : {A : Type 0} (r : Result A StateError) (x : A) → of_match r ≡ Ok x → r ≡ Ok x
of_match_ok (Ok y) x e = cc
of_match_ok (Err (state_error.Large why)) x e = absurd (let bad : ⊥ = cc in bad)
of_match_ok (Err (state_error.Kind number)) x e = absurd (let bad : ⊥ = cc in bad)
of_match_ok (Err state_error.Memory) x e = absurd (let bad : ⊥ = cc in bad)

-- what an edge that passes demands, and that it lists no variable of the signature
record IsEdgeOf (own : ℕ) (state target : StateType) (values : List (ℕ × Linear)) (demands : List Linear) : Type 0 where
  meets : meeting state target values ≡ Ok demands
  own_apart : All (λ v. own ≤ v.0) values

edge_is : (st : Setting) (state target : StateType) (values : List (ℕ × Linear)) (demands : List Linear) → edge_verdict st state target values ≡ Ok demands
    → IsEdgeOf st.own.vars state target values demands
unfolding edge_verdict meeting
edge_is st state target values demands e =
    let one = then_ok (by_rule (of_match (pairs_at state.places target.places []))) _ demands e in
    let two = then_ok (asks (list_all (is_listed st.own.vars target.ctx.vars) values) rule.Edge) _ demands one.second in
    let three = then_ok (asks (list_all (value_is_below state.ctx.vars) values) rule.Form) _ demands two.second in
    let pairs = of_match_ok (pairs_at state.places target.places []) one.value (ruled_ok (of_match (pairs_at state.places target.places [])) one.value one.first) in
    let rows = of_match_ok (demanded values state.ctx.vars one.value target.ctx.rows) demands
    (ruled_ok (of_match (demanded values state.ctx.vars one.value target.ctx.rows)) demands three.second) in
    record {
      meets = rw pairs rows;
      own_apart = test_all (is_listed st.own.vars target.ctx.vars) (λ v. st.own.vars ≤ v.0)
          (λ v h. leb-true st.own.vars v.0 (and_parts (nat_le st.own.vars v.0) (nat_lt v.0 target.ctx.vars) h).0) values (asked _ rule.Edge two.value two.first);
    }

-- in a context with more rows over the same variables
meets_in : (state target : StateType) (taken : IndexContext) (values : List (ℕ × Linear)) (demands : List Linear) → taken.vars ≡ state.ctx.vars
    → meeting state target values ≡ Ok demands → meeting (state_of taken state.places) target values ≡ Ok demands
unfolding meeting
meets_in state target taken values demands same e =
    subst (λ n. (pairs_at state.places target.places [] >>= λ pairs. demanded values n pairs target.ctx.rows) ≡ Ok demands) (sym same) e

met_holds : (headers : Headers) (places assignment given : List ℤ) (state target : StateType) → IsMet assignment given state target
    → ((place : ℕ) (t : Ty) → type_at place state.places ≡ Some t → HasType headers assignment (word_at places place) t)
    → Holds headers places given target
met_holds headers places assignment given state target met typed = record {
  one_each = met.one_each;
  hold = met.hold;
  typed = λ place t e.
      let f = type_at-all (λ (p : ℕ × Ty). PlaceFits assignment given state.places p) place target.places t met.fit e in
      f.carries.carries headers (word_at places place) (typed place f.ty f.there);
}

-- the values of the label's variables
pub record EdgeHolds (headers : Headers) (places assignment : List ℤ) (own : ℕ) (target : StateType) : Type 0 where
  pub given : List ℤ
  pub holds : Holds headers places given target
  pub same : take own given ≡ take own assignment

pub edge_holds : (st : Setting) (headers : Headers) (places assignment : List ℤ) (state target : StateType) (values : List (ℕ × Linear)) (by : List (List Line)) (demands : List Linear)
    (taken : IndexContext) → IsProper st.own.vars state → IsProper st.own.vars target → edge_verdict st state target values ≡ Ok demands
    → taken.vars ≡ state.ctx.vars → AllHold assignment taken.rows → asks_lines taken demands by ≡ Ok tt → Holds headers places assignment state
    → EdgeHolds headers places assignment st.own.vars target
edge_holds st headers places assignment state target values by demands taken proper aim e same hold lines holds =
    let edge = edge_is st state target values demands e in
    let met = edge_sound (state_of taken state.places) target values demands assignment (meets_in state target taken values demands same edge.meets) aim.names
    (all_entailed taken demands by lines) hold in
    let le = proper.own_vars in
    let one = holds.one_each in
    record {
      given = given_values assignment values taken.vars target.ctx.vars;
      holds = met_holds headers places assignment (given_values assignment values taken.vars target.ctx.vars) (state_of taken state.places) target met holds.typed;
      same = kept_values assignment values taken.vars st.own.vars target.ctx.vars edge.own_apart (omega (arith, le, same)) (one ∙ sym same) aim.own_vars;
    }
