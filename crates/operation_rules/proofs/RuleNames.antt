-- The rows that a rule demands name only variables of the context, and the types that it gives those and the fresh ones.
use Rattle.std.proofs.Common.{◌≡◌, ◌∙◌, ℕ, zero, suc, ◌+◌, ◌<◌, ◌≤◌, ◌==◌, ℤ, pos, negsuc, ◌+ℤ◌, ◌*ℤ◌, List, [], ◌∷◌, ◌++◌, map, length, get_or, Bool as Truth, true, false, cond, nat_lt, Option, Some, None, Result, Ok, Err, refl, sym, ap, subst, arith}
use Rattle.std.specs.Prelude.{slice_get}
use Rattle.std.specs.List.{All}
use Rattle.std.proofs.lemmas.List.Elements.{All-nil, All-cons, All-head, All-tail, All-append}
use Rattle.xan_lin.specs.Linear.{Linear, NamesBelow, sized, variable_form, sum_of, difference_of, product_of, excess_of}
use Rattle.xan_lin.specs.Terms.{with_multiple, plus_term, sum_terms, scaled_terms}
use Rattle.xan_lin.specs.declared.term.Term.{Term}
use Rattle.xan_lin.specs.declared.term.TooLarge.{TooLarge}
use Rattle.xan_lin.proofs.FormSizes.{sized-parts}
use Rattle.state_types.specs.Naming.{ValuesBelow, FoundBelow}
use Rattle.state_types.specs.Tables.{IsClosed}
use Rattle.state_types.specs.Types.{TypeBelow, subst_ty}
use Rattle.state_types.specs.Unpacking.{shifted_type}
use Rattle.state_types.specs.declared.closed.Packed.{Packed}
use Rattle.state_types.specs.declared.matching.Found.{Found}
use Rattle.state_types.specs.declared.types.Ty.{Ty}
use Rattle.state_types.specs.declared.types.Ty.TheVariants as ty
use Rattle.state_types.proofs.FormNames.{Below, below-difference, below-variable, below-more}
use Rattle.state_types.proofs.RowNames.{match-below, replaced-type, type-more}
use Rattle.state_types.proofs.ShiftFacts.{NamesBelow-shifted}
use Rattle.state_types.proofs.Thens.{then_ok, ok_same}
use Rattle.operation_rules.specs.Faults.{Ruling, NoTarget, needed, or_fault}
use Rattle.operation_rules.specs.Forms.{constant_form, number_of, variables_from}
use Rattle.operation_rules.specs.Named.{IsNamed, IsTypeNamed}
use Rattle.operation_rules.specs.Operations.{Operation, Literal, Truth as TruthOf, Move, Add, Sub, Mul, Div, Mod, Compare, Branch, BranchTruth, Jump, Call, Return, Length, Load, Store, New, Tuple, Untuple, Print}
use Rattle.operation_rules.specs.Rules.{Setting, Rule, gives_number, product, no_types, one_type as only, two_types, three_types, as_number, as_truth, as_array, as_tuple, two_numbers, tuple_at, cell_at, as_many, matching, of_kinds, matching_packed, quotient, remainder, measured, loaded, stored, allocated, constructed, split, called, returned, rule}
use Rattle.operation_rules.specs.Sides.{less, at_most, equal, side_of, side}
use Rattle.operation_rules.proofs.BlocksFound.{tuple_closed, cell_closed, matching_is}
use Rattle.operation_rules.proofs.NumbersFare.{below_first, below_second}
use Rattle.operation_rules.proofs.RuleFacts.{needed_ok}
use Rattle.operation_rules.proofs.RowsNamed.{below-excess, named_result, two_rows, values-both}
use Rattle.operation_rules.proofs.WordsRead.{one_type_is, two_types_is, three_types_is, two_numbers_is, as_number_is, as_array_is}

-- what the rule demands, and what it gives
pub record Names (first : ℕ) (r : Rule) : Type 0 where
  pub demands : All (NamesBelow first) r.demands
  pub given : All (IsTypeNamed (first + r.fresh)) r.given

same_names : (first : ℕ) (made r : Rule) → (let x : Ruling Rule = Ok made in x) ≡ Ok r → Names first made → Names first r
same_names first made r e names = subst (λ x. Names first x) (ok_same made r e) names

no_demands : (n : ℕ) → All (NamesBelow n) []
no_demands n = All-nil (NamesBelow n)

one_demand : (n : ℕ) (row : Linear) → NamesBelow n row → All (NamesBelow n) (row ∷ [])
one_demand n row h = All-cons (NamesBelow n) row [] h (All-nil (NamesBelow n))

one_type : (n : ℕ) (t : Result Ty TooLarge) → IsTypeNamed n t → All (IsTypeNamed n) (t ∷ [])
one_type n t h = All-cons (IsTypeNamed n) t [] h (All-nil (IsTypeNamed n))

no_types_named : (n : ℕ) → All (IsTypeNamed n) []
no_types_named n = All-nil (IsTypeNamed n)

same_type : (first : ℕ) (t : Ty) → TypeBelow first t → TypeBelow (first + 0) t
same_type first t h = type-more first (first + 0) t (omega arith) h

-- ---- sums and products

below-listed : (n var : ℕ) (coef : ℤ) (us : List Term) → var < n → Below n us → Below n (with_multiple var coef us)
below-listed n var (pos zero) us h all = all
below-listed n var (pos (suc k)) us h all = All-cons (λ t. t.var < n) (record { var = var; coef = pos (suc k) }) us h all
below-listed n var (negsuc k) us h all = All-cons (λ t. t.var < n) (record { var = var; coef = negsuc k }) us h all

below-chosen : (n : ℕ) (test : Truth) (xs ys : List Term) → Below n xs → Below n ys → Below n (cond test xs ys)
below-chosen n true xs ys h k = h
below-chosen n false xs ys h k = k

below-added : (n : ℕ) (t : Term) (us : List Term) → t.var < n → Below n us → Below n (plus_term t us)
unfolding plus_term
below-added n t [] h all = below-listed n t.var t.coef [] h all
below-added n t (u ∷ us) h all =
    let P : Term → Type 0 = λ v. v.var < n in
    let later = All-tail P u us all in
    let here = All-head P u us all in
    below-chosen n (nat_lt t.var u.var) (with_multiple t.var t.coef (u ∷ us)) _ (below-listed n t.var t.coef (u ∷ us) h all)
    (below-chosen n (nat_lt u.var t.var) (u ∷ plus_term t us) (with_multiple u.var (t.coef +ℤ u.coef) us) (All-cons P u (plus_term t us) here (below-added n t us h later))
    (below-listed n u.var (t.coef +ℤ u.coef) us here later))

below-terms : (n : ℕ) (ts us : List Term) → Below n ts → Below n us → Below n (sum_terms ts us)
unfolding sum_terms
below-terms n [] us all more = more
below-terms n (t ∷ ts) us all more =
    let P : Term → Type 0 = λ v. v.var < n in
    below-added n t (sum_terms ts us) (All-head P t ts all) (below-terms n ts us (All-tail P t ts all) more)

below-scaled : (n : ℕ) (ts : List Term) (by : ℤ) → Below n ts → Below n (scaled_terms ts by)
unfolding scaled_terms
below-scaled n [] by all = all
below-scaled n (t ∷ ts) by all =
    let P : Term → Type 0 = λ v. v.var < n in
    below-listed n t.var (t.coef *ℤ by) (scaled_terms ts by) (All-head P t ts all) (below-scaled n ts by (All-tail P t ts all))

below-sized : (n : ℕ) (ts : List Term) (constant : ℤ) (form : Linear) → Below n ts → sized ts constant ≡ Ok form → NamesBelow n form
below-sized n ts constant form all is = subst (λ f. NamesBelow n f) (sized-parts ts constant form is) all

-- a number with the value of a form that names variables so far
answer-names : (first : ℕ) (form : Result Linear TooLarge) → ((f : Linear) → form ≡ Ok f → NamesBelow first f) → Names first (gives_number first form)
answer-names first (Ok f) h = record { demands = no_demands first; given = one_type (first + 0) (Ok (ty.Int f)) (same_type first (ty.Int f) (h f refl)) }
answer-names first (Err why) h = record {
  demands = no_demands first;
  given = one_type (first + 1) (Ok (ty.Int (variable_form first))) (below-variable (first + 1) first (omega arith));
}

number-names : (first : ℕ) (ts : List Term) (constant : ℤ) → Below first ts → Names first (gives_number first (sized ts constant))
number-names first ts constant all = answer-names first (sized ts constant) (λ form is. below-sized first ts constant form all is)

fresh-names : (first : ℕ) (demands : List Linear) (rows : List (Result Linear TooLarge)) → All (NamesBelow first) demands
    → Names first (record { demands = demands; fresh = 1; assumed = rows; given = Ok (ty.Int (variable_form first)) ∷ [] })
fresh-names first demands rows h = record { demands = h; given = one_type (first + 1) (Ok (ty.Int (variable_form first))) (below-variable (first + 1) first (omega arith)) }

difference-names : (first : ℕ) (f g : Linear) → NamesBelow first f → NamesBelow first g → Names first (gives_number first (difference_of f g))
difference-names first f g h k =
    answer-names first (difference_of f g) (λ row is. below-difference first f g row is h k)

product-names : (first : ℕ) (f : Linear) (m : Option ℤ) (g : Linear) (n : Option ℤ) → NamesBelow first f → NamesBelow first g → Names first (product first f m g n)
product-names first f m g (Some n) h k = number-names first (scaled_terms f.terms n) (f.constant *ℤ n) (below-scaled first f.terms n h)
product-names first f (Some m) g None h k = number-names first (scaled_terms g.terms m) (g.constant *ℤ m) (below-scaled first g.terms m k)
product-names first f None g None h k = fresh-names first [] [] (no_demands first)

-- ---- operands

pub record TwoNumbers (first : ℕ) (both : Linear × Linear) : Type 0 where
  pub left : NamesBelow first both.0
  pub right : NamesBelow first both.1

two-below : (first : ℕ) (types : List Ty) (both : Linear × Linear) → two_numbers types ≡ Ok both → All (TypeBelow first) types → TwoNumbers first both
two-below first types both e below =
    let is = two_numbers_is types both e in
    record { left = below_first first types (ty.Int both.0) (ty.Int both.1 ∷ []) is below; right = below_second first types (ty.Int both.0) (ty.Int both.1) [] is below }

number-below : (first : ℕ) (t : Ty) (f : Linear) → as_number t ≡ Ok f → TypeBelow first t → NamesBelow first f
number-below first t f e h = subst (λ u. TypeBelow first u) (as_number_is t f e) h

length-below : (first : ℕ) (t : Ty) (p : ℕ × Linear) → as_array t ≡ Ok p → TypeBelow first t → NamesBelow first p.1
length-below first t p e h = subst (λ u. TypeBelow first u) (as_array_is t p e) h

index-rows : (first : ℕ) (e i below : Linear) → needed (excess_of e i) ≡ Ok below → NamesBelow first e → NamesBelow first i → (rows : List Linear) → All (NamesBelow first) rows
    → All (NamesBelow first) (i ∷ below ∷ rows)
index-rows first e i below is h k rows all =
    All-cons (NamesBelow first) i (below ∷ rows) k
    (All-cons (NamesBelow first) below rows (below-excess first e i below (needed_ok (excess_of e i) below is) h k) all)

divisor-names : (first : ℕ) (g row : Linear) → needed (difference_of g (constant_form (pos 1))) ≡ Ok row → NamesBelow first g → All (NamesBelow first) (row ∷ [])
divisor-names first g row is h =
    one_demand first row
    (below-difference first g (constant_form (pos 1)) row (needed_ok (difference_of g (constant_form (pos 1))) row is) h (All-nil (λ t. t.var < first)))

-- ---- closed types

parts-named : (first vars : ℕ) (parts : List Ty) → All (TypeBelow vars) parts
    → All (IsTypeNamed (first + vars)) (map (λ part. let x : Result Ty TooLarge = Ok (shifted_type first part) in x) parts)
parts-named first vars [] all = no_types_named (first + vars)
parts-named first vars (t ∷ ts) all =
    All-cons (IsTypeNamed (first + vars)) (Ok (shifted_type first t)) (map (λ part. let x : Result Ty TooLarge = Ok (shifted_type first part) in x) ts)
    (shifted_named t (All-head (TypeBelow vars) t ts all)) (parts-named first vars ts (All-tail (TypeBelow vars) t ts all))
  where
    shifted_named : (u : Ty) → TypeBelow vars u → TypeBelow (first + vars) (shifted_type first u)
    shifted_named (ty.Int e) h = NamesBelow-shifted first vars e h
    shifted_named ty.Bool h = tt
    shifted_named (ty.Array p e) h = NamesBelow-shifted first vars e h
    shifted_named (ty.Named p) h = tt

matching-below : (first below vars : ℕ) (rows : List Linear) (wanted types : List Ty) (found : Found) → matching below vars rows wanted types ≡ Ok found → below ≤ first
    → All (TypeBelow first) types → FoundBelow first found
matching-below first below vars rows wanted types found e le named =
    match-below below vars first rows wanted types found (matching_is below vars rows wanted types found e).is le named

one-below : (first : ℕ) (t : Ty) → TypeBelow first t → All (TypeBelow first) (t ∷ [])
one-below first t h = All-cons (TypeBelow first) t [] h (All-nil (TypeBelow first))

-- ---- rules

quotient-names : (first : ℕ) (types : List Ty) (r : Rule) → quotient first types ≡ Ok r → All (TypeBelow first) types → Names first r
unfolding quotient
quotient-names first types r e below =
    let s = then_ok (two_numbers types) _ r e in
    let t = then_ok (needed (difference_of s.value.1 (constant_form (pos 1)))) _ r s.second in
    same_names first _ r t.second
    (fresh-names first (t.value ∷ []) _ (divisor-names first s.value.1 t.value t.first (two-below first types s.value s.first below).right))

remainder-names : (first : ℕ) (types : List Ty) (r : Rule) → remainder first types ≡ Ok r → All (TypeBelow first) types → Names first r
unfolding remainder
remainder-names first types r e below =
    let s = then_ok (two_numbers types) _ r e in
    let t = then_ok (needed (difference_of s.value.1 (constant_form (pos 1)))) _ r s.second in
    same_names first _ r t.second
    (fresh-names first (t.value ∷ []) _ (divisor-names first s.value.1 t.value t.first (two-below first types s.value s.first below).right))

measured-names : (first : ℕ) (types : List Ty) (r : Rule) → measured types ≡ Ok r → All (TypeBelow first) types → Names first r
unfolding measured
measured-names first types r e below =
    let s = then_ok (only types) _ r e in
    let t = then_ok (as_array s.value) _ r s.second in
    let named = length-below first s.value t.value t.first (below_first first types s.value [] (one_type_is types s.value s.first) below) in
    same_names first _ r t.second (record { demands = no_demands first; given = one_type (first + 0) (Ok (ty.Int t.value.1)) (same_type first (ty.Int t.value.1) named) })

loaded-names : (st : Setting) (first : ℕ) (types : List Ty) (r : Rule) → All IsClosed st.table → loaded st first types ≡ Ok r → All (TypeBelow first) types → Names first r
unfolding loaded
loaded-names st first types r closed e below =
    let s = then_ok (two_types types) _ r e in
    let t = then_ok (as_array s.value.0) _ r s.second in
    let u = then_ok (as_number s.value.1) _ r t.second in
    let v = then_ok (needed (excess_of t.value.1 u.value)) _ r u.second in
    let w = then_ok (cell_at st.table t.value.0) _ r v.second in
    let is = two_types_is types s.value s.first in
    same_names first _ r w.second (record {
      demands = index-rows first t.value.1 u.value v.value v.first
          (length-below first s.value.0 t.value t.first (below_first first types s.value.0 (s.value.1 ∷ []) is below))
          (number-below first s.value.1 u.value u.first (below_second first types s.value.0 s.value.1 [] is below)) [] (no_demands first);
      given = parts-named first w.value.vars w.value.parts (cell_closed st.table t.value.0 w.value closed w.first).parts;
    })

stored-names : (st : Setting) (first : ℕ) (types : List Ty) (r : Rule) → stored st types ≡ Ok r → All (TypeBelow first) types → Names first r
unfolding stored
stored-names st first types r e below =
    let s = then_ok (three_types types) _ r e in
    let t = then_ok (as_array s.value.0) _ r s.second in
    let u = then_ok (as_number s.value.1) _ r t.second in
    let v = then_ok (cell_at st.table t.value.0) _ r u.second in
    let w = then_ok (of_kinds v.value.parts (s.value.2 ∷ [])) _ r v.second in
    let x = then_ok (needed (excess_of t.value.1 u.value)) _ r w.second in
    let y = then_ok (matching_packed v.value (s.value.2 ∷ [])) _ r x.second in
    let is = three_types_is types s.value s.first in
    let later : All (TypeBelow first) (s.value.1 ∷ s.value.2 ∷ []) =
    All-tail (TypeBelow first) s.value.0 (s.value.1 ∷ s.value.2 ∷ []) (subst (λ ts. All (TypeBelow first) ts) is below) in
    let last : All (TypeBelow first) (s.value.2 ∷ []) = All-tail (TypeBelow first) s.value.1 (s.value.2 ∷ []) later in
    let found = matching-below first 0 v.value.vars v.value.rows v.value.parts (s.value.2 ∷ []) y.value y.first (omega arith) last in
    same_names first _ r y.second (record {
      demands = index-rows first t.value.1 u.value x.value x.first
          (length-below first s.value.0 t.value t.first (below_first first types s.value.0 (s.value.1 ∷ s.value.2 ∷ []) is below))
          (number-below first s.value.1 u.value u.first (below_second first types s.value.0 s.value.1 (s.value.2 ∷ []) is below)) y.value.rows found.rows;
      given = no_types_named (first + 0);
    })

allocated-names : (st : Setting) (first cells : ℕ) (types : List Ty) (r : Rule) → allocated st cells types ≡ Ok r → All (TypeBelow first) types → Names first r
unfolding allocated
allocated-names st first cells types r e below =
    let s = then_ok (cell_at st.table cells) _ r e in
    let t = then_ok (two_types types) _ r s.second in
    let u = then_ok (as_number t.value.0) _ r t.second in
    let v = then_ok (matching_packed s.value (t.value.1 ∷ [])) _ r u.second in
    let is = two_types_is types t.value t.first in
    let named = number-below first t.value.0 u.value u.first (below_first first types t.value.0 (t.value.1 ∷ []) is below) in
    let found = matching-below first 0 s.value.vars s.value.rows s.value.parts (t.value.1 ∷ []) v.value v.first (omega arith)
    (one-below first t.value.1 (below_second first types t.value.0 t.value.1 [] is below)) in
    same_names first _ r v.second (record {
      demands = All-cons (NamesBelow first) u.value v.value.rows named found.rows;
      given = one_type (first + 0) (Ok (ty.Array cells u.value)) (same_type first (ty.Array cells u.value) named);
    })

constructed-names : (st : Setting) (first number : ℕ) (types : List Ty) (r : Rule) → constructed st number types ≡ Ok r → All (TypeBelow first) types → Names first r
unfolding constructed
constructed-names st first number types r e below =
    let s = then_ok (tuple_at st.table number) _ r e in
    let t = then_ok (matching_packed s.value types) _ r s.second in
    same_names first _ r t.second (record {
      demands = (matching-below first 0 s.value.vars s.value.rows s.value.parts types t.value t.first (omega arith) below).rows;
      given = one_type (first + 0) (Ok (ty.Named number)) tt;
    })

split-names : (st : Setting) (first number count : ℕ) (types : List Ty) (r : Rule) → All IsClosed st.table → split st first number count types ≡ Ok r → Names first r
unfolding split
split-names st first number count types r closed e =
    let s = then_ok (tuple_at st.table number) _ r e in
    let t = then_ok (only types) _ r s.second in
    let u = then_ok (as_many (length s.value.parts) count) _ r t.second in
    let v = then_ok (as_tuple number t.value) _ r u.second in
    same_names first _ r v.second (record {
      demands = no_demands first;
      given = parts-named first s.value.vars s.value.parts (tuple_closed st.table number s.value closed s.first).parts;
    })

result-named : (n : ℕ) (values : List (ℕ × Linear)) (t : Ty) → ValuesBelow n values → IsTypeNamed n (subst_ty values 0 t)
result-named n values t all = by_answer (subst_ty values 0 t) (λ u is. replaced-type n 0 values t u (omega arith) all is)
  where
    by_answer : (x : Result Ty TooLarge) → ((u : Ty) → x ≡ Ok u → TypeBelow n u) → IsTypeNamed n x
    by_answer (Ok u) h = h u refl
    by_answer (Err why) h = tt

called-names : (st : Setting) (first fun : ℕ) (types : List Ty) (r : Rule) → called st first fun types ≡ Ok r → All (TypeBelow first) types → Names first r
unfolding called
called-names st first fun types r e below =
    let s = then_ok (or_fault NoTarget (slice_get st.sigs fun)) _ r e in
    let t = then_ok (matching 0 s.value.vars s.value.rows s.value.params types) _ r s.second in
    let n = first + s.value.result_vars in
    let more : All (TypeBelow n) types = λ k d h. type-more first n (get_or types k d) (omega arith) (below k d h) in
    let found = matching-below n 0 s.value.vars s.value.rows s.value.params types t.value t.first (omega arith) more in
    let all = t.value.values ++ variables_from s.value.vars first s.value.result_vars in
    same_names first _ r t.second (record {
      demands = (matching-below first 0 s.value.vars s.value.rows s.value.params types t.value t.first (omega arith) below).rows;
      given = one_type n (subst_ty all 0 s.value.result)
          (result-named n all s.value.result (values-both n t.value.values s.value.vars first s.value.result_vars found.values (omega arith)));
    })

returned-names : (st : Setting) (first : ℕ) (types : List Ty) (r : Rule) → returned st.own types ≡ Ok r → st.own.vars ≤ first → All (TypeBelow first) types → Names first r
unfolding returned
returned-names st first types r e le below =
    let own = st.own in
    let s = then_ok (matching own.vars (own.vars + own.result_vars) own.result_rows (own.result ∷ []) types) _ r e in
    same_names first _ r s.second (record {
      demands = (matching-below first own.vars (own.vars + own.result_vars) own.result_rows (own.result ∷ []) types s.value s.first le below).rows;
      given = no_types_named (first + 0);
    })

nothing-names : (first : ℕ) (made r : Rule) → (let x : Ruling Rule = Ok made in x) ≡ Ok r → made ≡ record { demands = []; fresh = 0; assumed = []; given = [] } → Names first r
nothing-names first made r e is =
    same_names first made r e (subst (λ m. Names first m) (sym is) (record { demands = no_demands first; given = no_types_named (first + 0) }))

truth-names : (first : ℕ) → Names first (record { demands = []; fresh = 0; assumed = []; given = Ok ty.Bool ∷ [] })
truth-names first = record { demands = no_demands first; given = one_type (first + 0) (Ok ty.Bool) tt }

-- ---- all operations

pub rule_names : (st : Setting) (op : Operation) (types : List Ty) (first : ℕ) (r : Rule) → All IsClosed st.table → st.own.vars ≤ first → rule st op types first ≡ Ok r
    → All (TypeBelow first) types → Names first r
unfolding rule
rule_names st (Literal n) types first r closed le e below = (let s = then_ok (no_types types) _ r e in same_names first _ r s.second (number-names first [] n (All-nil (λ t. t.var < first))))
rule_names st (TruthOf b) types first r closed le e below = (let s = then_ok (no_types types) _ r e in same_names first _ r s.second (truth-names first))
rule_names st Move types first r closed le e below =
    (let s = then_ok (only types) _ r e in
    same_names first _ r s.second (record {
      demands = no_demands first;
      given = one_type (first + 0) (Ok s.value) (same_type first s.value (below_first first types s.value [] (one_type_is types s.value s.first) below));
    }))
rule_names st Add types first r closed le e below =
    (let s = then_ok (two_numbers types) _ r e in
    let b = two-below first types s.value s.first below in
    same_names first _ r s.second (number-names first (sum_terms s.value.0.terms s.value.1.terms) (s.value.0.constant +ℤ s.value.1.constant)
    (below-terms first s.value.0.terms s.value.1.terms b.left b.right)))
rule_names st Sub types first r closed le e below =
    (let s = then_ok (two_numbers types) _ r e in
    let b = two-below first types s.value s.first below in
    same_names first _ r s.second (difference-names first s.value.0 s.value.1 b.left b.right))
rule_names st Mul types first r closed le e below =
    (let s = then_ok (two_numbers types) _ r e in
    let b = two-below first types s.value s.first below in
    same_names first _ r s.second (product-names first s.value.0 (number_of s.value.0) s.value.1 (number_of s.value.1) b.left b.right))
rule_names st Div types first r closed le e below = quotient-names first types r e below
rule_names st Mod types first r closed le e below = remainder-names first types r e below
rule_names st (Compare c) types first r closed le e below = (let s = then_ok (two_numbers types) _ r e in same_names first _ r s.second (truth-names first))
rule_names st (Branch c) types first r closed le e below = (let s = then_ok (two_numbers types) _ r e in nothing-names first _ r s.second refl)
rule_names st (BranchTruth b) types first r closed le e below =
    (let s = then_ok (only types) _ r e in
    let t = then_ok (as_truth s.value) _ r s.second in
    nothing-names first _ r t.second refl)
rule_names st Jump types first r closed le e below = (let s = then_ok (no_types types) _ r e in nothing-names first _ r s.second refl)
rule_names st (Call fun) types first r closed le e below = called-names st first fun types r e below
rule_names st Return types first r closed le e below = returned-names st first types r e le below
rule_names st Length types first r closed le e below = measured-names first types r e below
rule_names st Load types first r closed le e below = loaded-names st first types r closed e below
rule_names st Store types first r closed le e below = stored-names st first types r e below
rule_names st (New cells) types first r closed le e below = allocated-names st first cells types r e below
rule_names st (Tuple number) types first r closed le e below = constructed-names st first number types r e below
rule_names st (Untuple number count) types first r closed le e below = split-names st first number count types r closed e
rule_names st Print types first r closed le e below =
    (let s = then_ok (only types) _ r e in
    let t = then_ok (as_number s.value) _ r s.second in
    nothing-names first _ r t.second refl)

-- ---- sides

less-named : (n : ℕ) (f g : Linear) → NamesBelow n f → NamesBelow n g → IsNamed n (less f g)
less-named n f g h k = named_result n (excess_of g f) (λ row e. below-excess n g f row e k h)

most-named : (n : ℕ) (f g : Linear) → NamesBelow n f → NamesBelow n g → IsNamed n (at_most f g)
most-named n f g h k = named_result n (difference_of g f) (λ row e. below-difference n g f row e k h)

one_row : (n : ℕ) (x : Result Linear TooLarge) → IsNamed n x → All (IsNamed n) (x ∷ [])
one_row n x h = All-cons (IsNamed n) x [] h (All-nil (IsNamed n))

equal-named : (n : ℕ) (f g : Linear) → NamesBelow n f → NamesBelow n g → All (IsNamed n) (equal f g)
equal-named n f g h k = two_rows n (at_most g f) (at_most f g) (most-named n g f k h) (most-named n f g h k)

comparison-named : (n : ℕ) (taken : Truth) (c : ℕ) (f g : Linear) → NamesBelow n f → NamesBelow n g → All (IsNamed n) (side_of taken c f g)
comparison-named n true zero f g h k = one_row n (less f g) (less-named n f g h k)
comparison-named n true (suc zero) f g h k = one_row n (at_most f g) (most-named n f g h k)
comparison-named n true (suc (suc zero)) f g h k = equal-named n f g h k
comparison-named n true (suc (suc (suc c))) f g h k = All-nil (IsNamed n)
comparison-named n false zero f g h k = one_row n (at_most g f) (most-named n g f k h)
comparison-named n false (suc zero) f g h k = one_row n (less g f) (less-named n g f k h)
comparison-named n false (suc (suc zero)) f g h k = All-nil (IsNamed n)
comparison-named n false (suc (suc (suc c))) f g h k = equal-named n f g h k

pair-named : (n : ℕ) (taken : Truth) (c : ℕ) (types : List Ty) → All (TypeBelow n) types → All (IsNamed n) (side taken (Branch c) types)
pair-named n taken c (ty.Int f ∷ ty.Int g ∷ []) below =
    comparison-named n taken c f g (below_first n (ty.Int f ∷ ty.Int g ∷ []) (ty.Int f) (ty.Int g ∷ []) refl below) (below_second n (ty.Int f ∷ ty.Int g ∷ []) (ty.Int f) (ty.Int g) [] refl below)
pair-named n taken c _ below = All-nil (IsNamed n)

pub sides_named : (n : ℕ) (taken : Truth) (op : Operation) (types : List Ty) → All (TypeBelow n) types → All (IsNamed n) (side taken op types)
sides_named n taken (Branch c) types below = pair-named n taken c types below
sides_named n taken _ types below = All-nil (IsNamed n)
