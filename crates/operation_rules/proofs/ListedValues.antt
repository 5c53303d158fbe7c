-- What the values of a match, with a result's own variables behind them, stand for.
use Rattle.std.proofs.Common.{◌≡◌, ℕ, zero, suc, ◌+◌, ◌-◌, ◌*◌, ◌<◌, ◌≤◌, ◌==◌, ℤ, pos, ◌+ℤ◌, ◌*ℤ◌, List, [], ◌∷◌, ◌++◌, length, take, drop, get_or, Bool as Truth, true, false, cond, nat_lt, Ok, Option, Some, None, refl, sym, ◌∙◌, ap, subst, arith}
use Rattle.std.specs.List.{All}
use Rattle.std.proofs.lemmas.Int.{ints}
use Rattle.std.proofs.lemmas.Bool.{lt-ltb}
use Rattle.std.proofs.Math.Seq.{drop-cons}
use Rattle.xan_lin.proofs.Booleans.{is_less, is_not_less}
use Rattle.operation_rules.proofs.LongerValues.{value_at-front, value_at-behind}
use Rattle.state_types.proofs.Unpacked.{value-front}
use Rattle.std.proofs.lemmas.Bool.Decides.{Decides-eqb}
use Rattle.std.proofs.lemmas.List.Elements.{All-head, All-tail}
use Rattle.xan_lin.specs.Linear.{Linear, NamesBelow, variable_form}
use Rattle.xan_lin.specs.Subst.{listed, replacement, subst_of, values_from, given_values}
use Rattle.xan_lin.specs.Value.{value_at, value_of}
use Rattle.xan_lin.proofs.SubstitutedValues.{subst-value}
use Rattle.xan_lin.proofs.ResultValues.{value-cons, value-none}
use Rattle.state_types.specs.Matching.{value_for, values_for, pairs_of, found_with, matched}
use Rattle.state_types.specs.Types.{TypeBelow, subst_ty}
use Rattle.state_types.specs.Words.{Headers, HasType, IsBlock}
use Rattle.state_types.specs.declared.matching.Found.{Found}
use Rattle.state_types.specs.declared.types.Ty.{Ty}
use Rattle.state_types.specs.declared.types.Ty.TheVariants as ty
use Rattle.state_types.proofs.MatchPairs.{found_is, length-values_from}
use Rattle.state_types.proofs.Thens.{then_ok, ok_same}
use Rattle.operation_rules.specs.Forms.{variables_from}

-- ---- the values that a match lists

pub record Lists (below vars : ℕ) (found : Found) : Type 0 where
  pub pairs : _
  pub are : found.values ≡ values_for below (vars - below) pairs

pub lists_of : (below vars : ℕ) (rows : List Linear) (wanted actual : List Ty) (found : Found) → matched below vars rows wanted actual ≡ Ok found → Lists below vars found
unfolding matched
lists_of below vars rows wanted actual found e =
    let s = then_ok (pairs_of 0 wanted actual []) (λ pairs. found_with (values_for below (vars - below) pairs) below pairs rows) found e in
    record { pairs = s.value; are = (found_is (values_for below (vars - below) s.value) below s.value rows found s.second).0 }

-- ---- looking a variable up

not_same : (m n : ℕ) → m < n → (m == n) ≡ false
not_same m n h = by (m == n) refl
  where
    by : (t : Truth) → (m == n) ≡ t → t ≡ false
    by true e = absurd (let same : m ≡ n = (Decides-eqb m n).0 e in omega arith)
    by false e = refl

not_same_above : (m n : ℕ) → n < m → (m == n) ≡ false
not_same_above m n h = by (m == n) refl
  where
    by : (t : Truth) → (m == n) ≡ t → t ≡ false
    by true e = absurd (let same : m ≡ n = (Decides-eqb m n).0 e in omega arith)
    by false e = refl

listed_next : (m v : ℕ) (form : Linear) (vs : List (ℕ × Linear)) → (m == v) ≡ false → listed v ((m, form) ∷ vs) ≡ listed v vs
listed_next m v form vs e = rw e refl

listed_here : (v : ℕ) (form : Linear) (vs : List (ℕ × Linear)) → listed v ((v, form) ∷ vs) ≡ Some form
listed_here v form vs = let e : (v == v) ≡ true = (Decides-eqb v v).1 refl in rw e refl

listed_past : (first count v : ℕ) (pairs : _) → first + count ≤ v → listed v (values_for first count pairs) ≡ None
unfolding values_for
listed_past first zero v pairs h = refl
listed_past first (suc count) v pairs h =
    listed_next first v (value_for first pairs) (values_for (suc first) count pairs) (not_same first v (omega arith)) ∙ listed_past (suc first) count v pairs (omega arith)

listed_under : (first count v : ℕ) (pairs : _) → v < first → listed v (values_for first count pairs) ≡ None
unfolding values_for
listed_under first zero v pairs h = refl
listed_under first (suc count) v pairs h =
    listed_next first v (value_for first pairs) (values_for (suc first) count pairs) (not_same_above first v h) ∙ listed_under (suc first) count v pairs (omega arith)

listed_within : (k first count : ℕ) (pairs : _) → k < count → listed (first + k) (values_for first count pairs) ≡ Some (value_for (first + k) pairs)
unfolding values_for
listed_within k first zero pairs h = absurd (omega arith)
listed_within zero first (suc count) pairs h =
    let same : first + 0 ≡ first = omega arith in
    subst (λ v. listed v (values_for first (suc count) pairs) ≡ Some (value_for v pairs)) (sym same) (listed_here first (value_for first pairs) (values_for (suc first) count pairs))
listed_within (suc k) first (suc count) pairs h =
    let same : suc first + k ≡ first + suc k = omega arith in
    listed_next first (first + suc k) (value_for first pairs) (values_for (suc first) count pairs) (not_same first (first + suc k) (omega arith))
    ∙ subst (λ v. listed v (values_for (suc first) count pairs) ≡ Some (value_for v pairs)) same (listed_within k (suc first) count pairs (omega arith))

listed_front_by : (test : Truth) (v : ℕ) (x form : Linear) (vs us : List (ℕ × Linear)) → cond test (let o : Option Linear = Some x in o) (listed v vs) ≡ Some form
    → (listed v vs ≡ Some form → listed v (vs ++ us) ≡ Some form) → cond test (let o : Option Linear = Some x in o) (listed v (vs ++ us)) ≡ Some form
listed_front_by true v x form vs us e rec = e
listed_front_by false v x form vs us e rec = rec e

listed_front : (v : ℕ) (form : Linear) (vs us : List (ℕ × Linear)) → listed v vs ≡ Some form → listed v (vs ++ us) ≡ Some form
listed_front v form [] us e = absurd (let bad : ⊥ = cc in bad)
listed_front v form (x ∷ vs) us e = listed_front_by (x.0 == v) v x.1 form vs us e (λ h. listed_front v form vs us h)

listed_behind_by : (test : Truth) (v : ℕ) (x : Linear) (vs us : List (ℕ × Linear)) → cond test (let o : Option Linear = Some x in o) (listed v vs) ≡ None
    → (listed v vs ≡ None → listed v (vs ++ us) ≡ listed v us) → cond test (let o : Option Linear = Some x in o) (listed v (vs ++ us)) ≡ listed v us
listed_behind_by true v x vs us e rec = absurd (let bad : ⊥ = cc in bad)
listed_behind_by false v x vs us e rec = rec e

listed_behind : (v : ℕ) (vs us : List (ℕ × Linear)) → listed v vs ≡ None → listed v (vs ++ us) ≡ listed v us
listed_behind v [] us e = refl
listed_behind v (x ∷ vs) us e = listed_behind_by (x.0 == v) v x.1 vs us e (λ h. listed_behind v vs us h)

listed_variable : (k number first count : ℕ) → k < count → listed (number + k) (variables_from number first count) ≡ Some (variable_form (first + k))
unfolding variables_from
listed_variable k number first zero h = absurd (omega arith)
listed_variable zero number first (suc count) h =
    let same : number + 0 ≡ number = omega arith in
    let also : first + 0 ≡ first = omega arith in
    subst (λ v. listed v (variables_from number first (suc count)) ≡ Some (variable_form (first + 0))) (sym same)
    (listed_here number (variable_form first) (variables_from (suc number) (suc first) count) ∙ ap (λ n. let o : Option Linear = Some (variable_form n) in o) (sym also))
listed_variable (suc k) number first (suc count) h =
    let same : suc number + k ≡ number + suc k = omega arith in
    let also : suc first + k ≡ first + suc k = omega arith in
    listed_next number (number + suc k) (variable_form first) (variables_from (suc number) (suc first) count) (not_same number (number + suc k) (omega arith))
    ∙ subst (λ v. listed v (variables_from (suc number) (suc first) count) ≡ Some (variable_form (suc first + k))) same (listed_variable k (suc number) (suc first) count (omega arith))
    ∙ ap (λ n. let o : Option Linear = Some (variable_form n) in o) also

-- ---- what stands for a variable

replaced_by : (values : List (ℕ × Linear)) (below v : ℕ) (form : Linear) → listed v values ≡ Some form → replacement values below v ≡ form
unfolding replacement
replaced_by values below v form e = rw e refl

replaced_own : (values : List (ℕ × Linear)) (below v : ℕ) → listed v values ≡ None → v < below → replacement values below v ≡ variable_form v
unfolding replacement
replaced_own values below v e h = rw (e, lt-ltb v below h) refl

one_term : (n : ℤ) → ((pos 1 *ℤ n) +ℤ pos 0) +ℤ pos 0 ≡ n
one_term n = omega (arith, ints)

pub variable_is : (values : List ℤ) (v : ℕ) → value_of values (variable_form v) ≡ value_at values v
variable_is values v =
    ap (λ n. n +ℤ pos 0) (value-cons values (record { var = v; coef = pos 1 }) [] ∙ ap (λ n. (pos 1 *ℤ value_at values v) +ℤ n) (value-none values)) ∙ one_term (value_at values v)

value_in : (assignment : List ℤ) (values : List (ℕ × Linear)) (below k first count : ℕ) → k < count
    → value_at (values_from assignment values below first count) k ≡ value_of assignment (replacement values below (first + k))
unfolding values_from
value_in assignment values below k first zero h = absurd (omega arith)
value_in assignment values below zero first (suc count) h = ap (λ v. value_of assignment (replacement values below v)) (let e : first ≡ first + 0 = omega arith in e)
value_in assignment values below (suc k) first (suc count) h =
    value_in assignment values below k (suc first) count (omega arith) ∙ ap (λ v. value_of assignment (replacement values below v)) (let e : suc first + k ≡ first + suc k = omega arith in e)

pub given_is : (assignment : List ℤ) (values : List (ℕ × Linear)) (below v vars : ℕ) → v < vars
    → value_at (given_values assignment values below vars) v ≡ value_of assignment (replacement values below v)
given_is assignment values below v vars h = value_in assignment values below v 0 vars h ∙ ap (λ n. value_of assignment (replacement values below n)) (let e : 0 + v ≡ v = omega arith in e)

-- ---- forms and types in which variables are replaced

-- each variable below `vars` has the value of what stands for it
pub record Agree (assignment given : List ℤ) (values : List (ℕ × Linear)) (below vars : ℕ) : Type 0 where
  pub each : (v : ℕ) → v < vars → value_at given v ≡ value_of assignment (replacement values below v)

pub form_agrees : (assignment given : List ℤ) (values : List (ℕ × Linear)) (below vars : ℕ) (e form : Linear) → Agree assignment given values below vars → NamesBelow vars e
    → subst_of values below e ≡ Ok form → value_of assignment form ≡ value_of given e
form_agrees assignment given values below vars e form agree named is =
    subst-value assignment given values below e form (λ k d h. agree.each (get_or e.terms k d).var (named k d h)) is

pub type_agrees : (headers : Headers) (assignment given : List ℤ) (values : List (ℕ × Linear)) (below vars : ℕ) (t made : Ty) (word : ℤ) → Agree assignment given values below vars
    → TypeBelow vars t → subst_ty values below t ≡ Ok made → HasType headers given word t → HasType headers assignment word made
unfolding subst_ty
type_agrees headers assignment given values below vars (ty.Int e) made word agree named is has =
    let s = then_ok (subst_of values below e) _ made is in
    subst (λ x. HasType headers assignment word x) (ok_same (ty.Int s.value) made s.second)
    (has ∙ sym (form_agrees assignment given values below vars e s.value agree named s.first))
type_agrees headers assignment given values below vars ty.Bool made word agree named is has =
    subst (λ x. HasType headers assignment word x) (ok_same ty.Bool made is) has
type_agrees headers assignment given values below vars (ty.Array p e) made word agree named is has =
    let s = then_ok (subst_of values below e) _ made is in
    subst (λ x. HasType headers assignment word x) (ok_same (ty.Array p s.value) made s.second)
    (subst (λ n. IsBlock headers word (2 * p) n) (sym (form_agrees assignment given values below vars e s.value agree named s.first)) has)
type_agrees headers assignment given values below vars (ty.Named p) made word agree named is has =
    subst (λ x. HasType headers assignment word x) (ok_same (ty.Named p) made is) has

-- ---- the values of a call, with the result's own variables behind them

listed_names_by : (test : Truth) (n v : ℕ) (x form : Linear) (vs : List (ℕ × Linear)) → cond test (let o : Option Linear = Some x in o) (listed v vs) ≡ Some form → NamesBelow n x
    → (listed v vs ≡ Some form → NamesBelow n form) → NamesBelow n form
listed_names_by true n v x form vs e named rec = subst (λ f. NamesBelow n f) (let same : x ≡ form = cc in same) named
listed_names_by false n v x form vs e named rec = rec e

listed_names : (n v : ℕ) (form : Linear) (vs : List (ℕ × Linear)) → All (λ x. NamesBelow n x.1) vs → listed v vs ≡ Some form → NamesBelow n form
listed_names n v form [] all e = absurd (let bad : ⊥ = cc in bad)
listed_names n v form (x ∷ vs) all e =
    let P : ℕ × Linear → Type 0 = λ y. NamesBelow n y.1 in
    listed_names_by (x.0 == v) n v x.1 form vs e (All-head P x vs all) (λ h. listed_names n v form vs (All-tail P x vs all) h)

module _ (assignment own : List ℤ) (found : Found) (vars count first : ℕ) (lists : Lists 0 vars found) (one_each : length own ≡ count) (is_first : length assignment ≡ first)
    (named : All (λ v. NamesBelow first v.1) found.values) where
  long : length (given_values assignment found.values 0 vars) ≡ vars
  long = length-values_from assignment found.values 0 0 vars

  listed_of : (v : ℕ) → v < vars → listed v found.values ≡ Some (value_for v lists.pairs)
  listed_of v h =
      let same : 0 + v ≡ v = omega arith in
      ap (λ vs. listed v vs) lists.are
      ∙ subst (λ k. listed k (values_for 0 (vars - 0) lists.pairs) ≡ Some (value_for k lists.pairs)) same (listed_within v 0 (vars - 0) lists.pairs (omega arith))

  front_agrees : (v : ℕ) → v < vars → value_at (given_values assignment found.values 0 vars ++ own) v ≡ value_of (assignment ++ own) (replacement (found.values ++ variables_from vars first count) 0 v)
  front_agrees v h =
      let value = value_for v lists.pairs in
      let here = listed_of v h in
      let below : NamesBelow first value = listed_names first v value found.values named here in
      value_at-front (given_values assignment found.values 0 vars) own v (omega (arith, long))
      ∙ given_is assignment found.values 0 v vars h
      ∙ ap (λ f. value_of assignment f) (replaced_by found.values 0 v value here)
      ∙ sym (value-front assignment own value (subst (λ n. NamesBelow n value) (sym is_first) below))
      ∙ ap (λ f. value_of (assignment ++ own) f) (sym (replaced_by (found.values ++ variables_from vars first count) 0 v value (listed_front v value found.values (variables_from vars first count) here)))

  behind_agrees : (k : ℕ) → k < count → value_at (given_values assignment found.values 0 vars ++ own) (vars + k)
      ≡ value_of (assignment ++ own) (replacement (found.values ++ variables_from vars first count) 0 (vars + k))
  behind_agrees k h =
      let none : listed (vars + k) found.values ≡ None = ap (λ vs. listed (vars + k) vs) lists.are ∙ listed_past 0 (vars - 0) (vars + k) lists.pairs (omega arith) in
      let there : listed (vars + k) (found.values ++ variables_from vars first count) ≡ Some (variable_form (first + k)) =
      listed_behind (vars + k) found.values (variables_from vars first count) none ∙ listed_variable k vars first count h in
      ap (λ n. value_at (given_values assignment found.values 0 vars ++ own) (n + k)) (sym long)
      ∙ value_at-behind (given_values assignment found.values 0 vars) own k
      ∙ sym (value_at-behind assignment own k)
      ∙ ap (λ n. value_at (assignment ++ own) (n + k)) is_first
      ∙ sym (variable_is (assignment ++ own) (first + k))
      ∙ ap (λ f. value_of (assignment ++ own) f) (sym (replaced_by (found.values ++ variables_from vars first count) 0 (vars + k) (variable_form (first + k)) there))

  both_agree : (test : Truth) (v : ℕ) → nat_lt v vars ≡ test → v < vars + count
      → value_at (given_values assignment found.values 0 vars ++ own) v ≡ value_of (assignment ++ own) (replacement (found.values ++ variables_from vars first count) 0 v)
  both_agree true v e h = front_agrees v (is_less v vars e)
  both_agree false v e h =
      let past : vars ≤ v = is_not_less v vars e in
      let same : vars + (v - vars) ≡ v = omega arith in
      subst (λ n. value_at (given_values assignment found.values 0 vars ++ own) n ≡ value_of (assignment ++ own) (replacement (found.values ++ variables_from vars first count) 0 n)) same
      (behind_agrees (v - vars) (omega arith))

  pub results_agree : Agree (assignment ++ own) (given_values assignment found.values 0 vars ++ own) (found.values ++ variables_from vars first count) 0 (vars + count)
  results_agree = record { each = λ v h. both_agree (nat_lt v vars) v refl h }

-- ---- the values of a result

values_split : (assignment : List ℤ) (values : List (ℕ × Linear)) (below first m n : ℕ)
    → values_from assignment values below first (m + n) ≡ values_from assignment values below first m ++ values_from assignment values below (first + m) n
unfolding values_from
values_split assignment values below first zero n =
    ap (λ c. values_from assignment values below first c) (let e : 0 + n ≡ n = omega arith in e)
    ∙ ap (λ f. values_from assignment values below f n) (let e : first ≡ first + 0 = omega arith in e)
values_split assignment values below first (suc m) n =
    ap (λ c. values_from assignment values below first c) (let e : suc m + n ≡ suc (m + n) = omega arith in e)
    ∙ ap (λ vs. value_of assignment (replacement values below first) ∷ vs)
    (values_split assignment values below (suc first) m n
    ∙ ap (λ f. values_from assignment values below (suc first) m ++ values_from assignment values below f n) (let e : suc first + m ≡ first + suc m = omega arith in e))

own_from : (assignment : List ℤ) (values : List (ℕ × Linear)) (below first count : ℕ) → ((v : ℕ) → v < below → listed v values ≡ None) → first + count ≤ below
    → first + count ≤ length assignment → values_from assignment values below first count ≡ take count (drop first assignment)
unfolding values_from
own_from assignment values below first zero none low long = refl
own_from assignment values below first (suc count) none low long =
    ap (λ n. n ∷ values_from assignment values below (suc first) count)
    (ap (λ f. value_of assignment f) (replaced_own values below first (none first (omega arith)) (omega arith)) ∙ variable_is assignment first)
    ∙ ap (λ vs. value_at assignment first ∷ vs) (own_from assignment values below (suc first) count none (omega arith) (omega arith))
    ∙ ap (λ xs. take (suc count) xs) (sym (drop-cons assignment first (pos 0) (omega arith)))

-- the variables of the function have the values that they had
pub result_values : (assignment : List ℤ) (found : Found) (own count : ℕ) → Lists own (own + count) found → own ≤ length assignment
    → given_values assignment found.values own (own + count) ≡ take own assignment ++ values_from assignment found.values own own count
result_values assignment found own count lists low =
    values_split assignment found.values own 0 own count
    ∙ ap (λ vs. vs ++ values_from assignment found.values own (0 + own) count)
    (own_from assignment found.values own 0 own (λ v h. ap (λ vs. listed v vs) lists.are ∙ listed_under own (own + count - own) v lists.pairs h) (omega arith) (omega arith))
    ∙ ap (λ n. take own assignment ++ values_from assignment found.values own n count) (let e : 0 + own ≡ own = omega arith in e)
