-- Calls and returns go well.
use Rattle.std.proofs.Common.{◌≡◌, ℕ, zero, suc, ◌+◌, ◌≤◌, ℤ, pos, ◌≤ℤ◌, List, [], ◌∷◌, ◌++◌, map, length, Result, Ok, Err, Some, refl, sym, ap, subst, arith}
use Rattle.std.specs.Prelude.{slice_get}
use Rattle.std.specs.List.{All}
use Rattle.std.proofs.lemmas.List.Elements.{All-nil, All-cons, All-head, All-tail}
use Rattle.index_sorts.specs.Context.{IndexContext}
use Rattle.index_sorts.specs.Entails.{AllHold}
use Rattle.xan_lin.specs.Linear.{Linear, NamesBelow}
use Rattle.xan_lin.specs.Subst.{subst_of, values_from, given_values}
use Rattle.xan_lin.specs.Value.{Holds}
use Rattle.xan_lin.specs.declared.term.TooLarge.{TooLarge}
use Rattle.state_types.specs.Types.{TypeBelow, subst_ty}
use Rattle.state_types.specs.Words.{Headers, HasType}
use Rattle.state_types.specs.declared.closed.Signature.{Signature}
use Rattle.state_types.specs.declared.matching.Found.{Found}
use Rattle.state_types.specs.declared.types.Ty.{Ty}
use Rattle.state_types.proofs.MatchPairs.{words_carry, length-values_from}
use Rattle.state_types.proofs.RowNames.{match-below}
use Rattle.state_types.proofs.Thens.{then_ok, ok_same}
use Rattle.operation_rules.specs.Applied.{Ruled}
use Rattle.operation_rules.specs.Effects.{Stores, Gives, effect}
use Rattle.operation_rules.specs.Faults.{NoTarget, or_fault}
use Rattle.operation_rules.specs.Forms.{variables_from}
use Rattle.operation_rules.specs.Operations.{Call, Return}
use Rattle.operation_rules.specs.Rules.{Setting, Rule, gives, returns, matching, called, returned, rule}
use Rattle.operation_rules.specs.Sound.{IsHeader, Fares, Written}
use Rattle.operation_rules.proofs.BlocksFound.{matching_is, matching_sound}
use Rattle.operation_rules.proofs.ListedValues.{lists_of, Agree, form_agrees, type_agrees, results_agree, result_values}
use Rattle.operation_rules.proofs.RuleFacts.{OkHolds, OkHas, Meets, or_fault_ok}
use Rattle.operation_rules.proofs.WordsRead.{with_one_is, Acts, written_by}

item_header : (sigs : List Signature) (number : ℕ) (sig : Signature) → All IsHeader sigs → slice_get sigs number ≡ Some sig → IsHeader sig
item_header [] number sig all e = absurd (let bad : ⊥ = cc in bad)
item_header (x ∷ xs) zero sig all e = subst (λ s. IsHeader s) (let same : x ≡ sig = cc in same) (All-head IsHeader x xs all)
item_header (x ∷ xs) (suc number) sig all e = item_header xs number sig (All-tail IsHeader x xs all) e

-- ---- a result's rows and type

row_holds : (assignment given : List ℤ) (values : List (ℕ × Linear)) (vars : ℕ) (row : Linear) (made : Result Linear TooLarge) → Agree assignment given values 0 vars → NamesBelow vars row
    → Holds given row → subst_of values 0 row ≡ made → OkHolds assignment made
row_holds assignment given values vars row (Ok form) agree named h is =
    subst (λ n. pos 0 ≤ℤ n) (sym (form_agrees assignment given values 0 vars row form agree named is)) h
row_holds assignment given values vars row (Err why) agree named h is = tt

rows_hold : (assignment given : List ℤ) (values : List (ℕ × Linear)) (vars : ℕ) (rows : List Linear) → Agree assignment given values 0 vars → All (NamesBelow vars) rows → AllHold given rows
    → All (OkHolds assignment) (map (subst_of values 0) rows)
rows_hold assignment given values vars [] agree named hold = All-nil (OkHolds assignment)
rows_hold assignment given values vars (row ∷ rows) agree named hold =
    All-cons (OkHolds assignment) (subst_of values 0 row) (map (subst_of values 0) rows)
    (row_holds assignment given values vars row (subst_of values 0 row) agree (All-head (NamesBelow vars) row rows named) (All-head (Holds given) row rows hold) refl)
    (rows_hold assignment given values vars rows agree (All-tail (NamesBelow vars) row rows named) (All-tail (Holds given) row rows hold))

result_has : (headers : Headers) (assignment given : List ℤ) (values : List (ℕ × Linear)) (vars : ℕ) (t : Ty) (made : Result Ty TooLarge) (word : ℤ) → Agree assignment given values 0 vars
    → TypeBelow vars t → HasType headers given word t → subst_ty values 0 t ≡ made → OkHas headers assignment word made
result_has headers assignment given values vars t (Ok u) word agree named has is = type_agrees headers assignment given values 0 vars t u word agree named is has
result_has headers assignment given values vars t (Err why) word agree named has is = tt

module _ {S : Type 0} (stores : Stores S) (st : Setting) (store : S) (assignment : List ℤ) (ctx : IndexContext) where
  comes_back : (types : List Ty) (words : List ℤ) (r : Rule) (ruled : Ruled) (sig : Signature) (found : Found) → Acts stores st store assignment ctx types words r ruled
      → IsHeader sig → matching 0 sig.vars sig.rows sig.params types ≡ Ok found → returns ctx.vars sig found ≡ r
      → (later : Headers) (own : List ℤ) (word : ℤ) → length own ≡ sig.result_vars → AllHold (given_values assignment found.values 0 sig.vars ++ own) sig.result_rows
      → HasType later (given_values assignment found.values 0 sig.vars ++ own) word sig.result → Written later assignment ctx ruled (word ∷ [])
  comes_back types words r ruled sig found acts header e is later own word count hold has =
      let m = matching_is 0 sig.vars sig.rows sig.params types found e in
      let below = match-below 0 sig.vars ctx.vars sig.rows sig.params types found m.is (omega arith) acts.stands.below in
      let agree = results_agree assignment own found sig.vars sig.result_vars ctx.vars (lists_of 0 sig.vars sig.rows sig.params types found m.is) count acts.stands.one_each below.values in
      let given = given_values assignment found.values 0 sig.vars ++ own in
      let values = found.values ++ variables_from sig.vars ctx.vars sig.result_vars in
      let meets : Meets later assignment (returns ctx.vars sig found) (word ∷ []) = record {
        own = own;
        count = count;
        hold = rows_hold (assignment ++ own) given values (sig.vars + sig.result_vars) sig.result_rows agree header.result_rows hold;
        typed = (result_has later (assignment ++ own) given values (sig.vars + sig.result_vars) sig.result (subst_ty values 0 sig.result) word agree header.result has refl, tt);
      } in
      written_by stores st store assignment ctx types words (word ∷ []) r ruled later acts (subst (λ x. Meets later assignment x (word ∷ [])) is meets)

  pub call_fares : (fun : ℕ) (types : List Ty) (words : List ℤ) (r : Rule) (ruled : Ruled) → Acts stores st store assignment ctx types words r ruled
      → rule st (Call fun) types ctx.vars ≡ Ok r → Fares stores st (Call fun) types store assignment ctx ruled (effect stores (Call fun) words store)
  unfolding rule called
  call_fares fun types words r ruled acts e =
      let s = then_ok (or_fault NoTarget (slice_get st.sigs fun)) _ r e in
      let sig = s.value in
      let t = then_ok (matching 0 sig.vars sig.rows sig.params types) _ r s.second in
      let made : returns ctx.vars sig t.value ≡ r = ok_same _ r t.second in
      let there = or_fault_ok NoTarget (slice_get st.sigs fun) sig s.first in
      let header = item_header st.sigs fun sig acts.setting.sigs there in
      let asked : AllHold assignment t.value.rows = subst (λ (ds : List Linear). AllHold assignment ds) (ap (λ x. x.demands) (sym made)) acts.demands in
      let m = matching_sound 0 sig.vars sig.rows sig.params types t.value assignment t.first header.rows header.params asked in
      record {
        sig = sig;
        there = there;
        values = given_values assignment t.value.values 0 sig.vars;
        one_each = m.one_each;
        hold = m.hold;
        fit = words_carry (stores.headers store) assignment (given_values assignment t.value.values 0 sig.vars) words sig.params types m.fit acts.stands.typed;
        back = λ later own word count hold has. comes_back types words r ruled sig t.value acts header t.first made later own word count hold has;
      }

  pub return_fares : (types : List Ty) (words : List ℤ) (r : Rule) (ruled : Ruled) → Acts stores st store assignment ctx types words r ruled
      → rule st Return types ctx.vars ≡ Ok r → Fares stores st Return types store assignment ctx ruled (effect stores Return words store)
  unfolding rule returned
  return_fares types words r ruled acts e =
      let own = st.own in
      let s = then_ok (matching own.vars (own.vars + own.result_vars) own.result_rows (own.result ∷ []) types) _ r e in
      let found = s.value in
      let made : gives found.rows [] ≡ r = ok_same _ r s.second in
      let asked : AllHold assignment found.rows = subst (λ (ds : List Linear). AllHold assignment ds) (ap (λ x. x.demands) (sym made)) acts.demands in
      let given = given_values assignment found.values own.vars (own.vars + own.result_vars) in
      let m = matching_sound own.vars (own.vars + own.result_vars) own.result_rows (own.result ∷ []) types found assignment s.first acts.setting.own.result_rows
      (All-cons (TypeBelow (own.vars + own.result_vars)) own.result [] acts.setting.own.result (All-nil (TypeBelow (own.vars + own.result_vars)))) asked in
      let is = matching_is own.vars (own.vars + own.result_vars) own.result_rows (own.result ∷ []) types found s.first in
      let low : own.vars ≤ length assignment = subst (λ n. own.vars ≤ n) (sym acts.stands.one_each) acts.own in
      let split = result_values assignment found own.vars own.result_vars
      (lists_of own.vars (own.vars + own.result_vars) own.result_rows (own.result ∷ []) types found is.is) low in
      let fresh = values_from assignment found.values own.vars own.vars own.result_vars in
      with_one_is stores (Fares stores st Return types store assignment ctx ruled) (stores.headers store) given words (own.result ∷ []) own.result (λ a. Gives a) refl
      (words_carry (stores.headers store) assignment given words (own.result ∷ []) types m.fit acts.stands.typed)
      (λ a has. record {
        own = fresh;
        one_each = length-values_from assignment found.values own.vars own.vars own.result_vars;
        hold = subst (λ vs. AllHold vs own.result_rows) split m.hold;
        fit = subst (λ vs. HasType (stores.headers store) vs a own.result) split has;
      })
