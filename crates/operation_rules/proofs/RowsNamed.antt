-- The rows that a rule takes to hold name only variables of the context with the fresh ones.
use Rattle.std.proofs.Common.{◌≡◌, ◌∙◌, ℕ, zero, suc, ◌+◌, ◌<◌, ◌≤◌, ℤ, pos, negsuc, ◌-ℤ◌, List, [], ◌∷◌, ◌++◌, map, length, get_or, Option, Some, None, Result, Ok, Err, refl, ap, subst, arith}
use Rattle.std.specs.Prelude.{slice_get}
use Rattle.std.specs.List.{All}
use Rattle.std.proofs.lemmas.Int.{ints}
use Rattle.std.proofs.lemmas.List.Elements.{All-nil, All-cons, All-head, All-tail}
use Rattle.xan_lin.specs.Linear.{Linear, NamesBelow, sized, variable_form, sum_of, difference_of, product_of, excess_of}
use Rattle.xan_lin.specs.Subst.{subst_of}
use Rattle.xan_lin.specs.Terms.{sum_terms, negated_terms}
use Rattle.xan_lin.specs.declared.term.Term.{Term}
use Rattle.xan_lin.specs.declared.term.TooLarge.{TooLarge}
use Rattle.state_types.specs.Naming.{ValuesBelow}
use Rattle.state_types.specs.Tables.{IsClosed}
use Rattle.state_types.specs.Types.{TypeBelow}
use Rattle.state_types.specs.Unpacking.{shifted}
use Rattle.state_types.specs.declared.types.Ty.{Ty}
use Rattle.state_types.specs.declared.types.Ty.TheVariants as ty
use Rattle.state_types.proofs.FormNames.{below-difference, below-variable, below-subst, below-more}
use Rattle.state_types.proofs.RowNames.{match-below, type-more}
use Rattle.state_types.proofs.ShiftFacts.{NamesBelow-shifted}
use Rattle.state_types.proofs.Thens.{then_ok, ok_same}
use Rattle.operation_rules.specs.Faults.{Ruling, NoTarget, needed, or_fault}
use Rattle.operation_rules.specs.Forms.{constant_form, number_of, multiple_form, quotient_rows, remainder_rows, variables_from}
use Rattle.operation_rules.specs.Named.{IsNamed}
use Rattle.operation_rules.specs.Operations.{Operation, Literal, Truth, Move, Add, Sub, Mul, Div, Mod, Compare, Branch, BranchTruth, Jump, Call, Return, Length, Load, Store, New, Tuple, Untuple, Print}
use Rattle.operation_rules.specs.Rules.{Setting, Rule, gives_number, product, no_types, one_type, two_types, three_types, as_number, as_truth, as_array, as_tuple, two_numbers, tuple_at, cell_at, as_many, matching, of_kinds, matching_packed, quotient, remainder, measured, loaded, stored, allocated, constructed, split, called, returned, rule}
use Rattle.operation_rules.proofs.BlocksFound.{tuple_closed, cell_closed, matching_is}
use Rattle.operation_rules.proofs.NumbersFare.{below_first, below_second}
use Rattle.operation_rules.proofs.WordsRead.{one_type_is, two_numbers_is, as_array_is}

abbrev Rows : ℕ → Rule → Type 0
Rows first r = All (IsNamed (first + r.fresh)) r.assumed

nothing : (n : ℕ) → All (IsNamed n) []
nothing n = All-nil (IsNamed n)

same_rows : (first : ℕ) (made r : Rule) → (let x : Ruling Rule = Ok made in x) ≡ Ok r → Rows first made → Rows first r
same_rows first made r e rows = subst (λ x. Rows first x) (ok_same made r e) rows

pub named_result : (n : ℕ) (r : Result Linear TooLarge) → ((form : Linear) → r ≡ Ok form → NamesBelow n form) → IsNamed n r
named_result n (Ok form) h = h form refl
named_result n (Err why) h = tt

pub two_rows : (n : ℕ) (x y : Result Linear TooLarge) → IsNamed n x → IsNamed n y → All (IsNamed n) (x ∷ y ∷ [])
two_rows n x y a b = All-cons (IsNamed n) x (y ∷ []) a (All-cons (IsNamed n) y [] b (All-nil (IsNamed n)))

-- ---- numbers

number-rows : (first : ℕ) (form : Result Linear TooLarge) → Rows first (gives_number first form)
number-rows first (Ok form) = nothing (first + 0)
number-rows first (Err why) = nothing (first + 1)

product-rows : (first : ℕ) (f : Linear) (m : Option ℤ) (g : Linear) (n : Option ℤ) → Rows first (product first f m g n)
product-rows first f m g (Some n) = number-rows first (product_of f n)
product-rows first f (Some m) g None = number-rows first (product_of g m)
product-rows first f None g None = nothing (first + 1)

below-multiple : (n q : ℕ) (c k : ℤ) → q < n → NamesBelow n (multiple_form c q k)
below-multiple n q c k h =
    let P : Term → Type 0 = λ t. t.var < n in
    All-cons P (record { var = q; coef = c }) [] h (All-nil P)

same_excess : (a b : ℤ) → (a -ℤ pos 1) -ℤ b ≡ (a -ℤ b) -ℤ pos 1
same_excess a b = omega (arith, ints)

pub below-excess : (n : ℕ) (e f row : Linear) → excess_of e f ≡ Ok row → NamesBelow n e → NamesBelow n f → NamesBelow n row
unfolding excess_of
below-excess n e f row is h k =
    below-difference n (record { terms = e.terms; constant = e.constant -ℤ pos 1 }) f row
    (ap (λ c. sized (sum_terms e.terms (negated_terms f.terms)) c) (same_excess e.constant f.constant) ∙ is) h k

next : (n : ℕ) → n < n + 1
next n = omega arith

quotient-named : (first : ℕ) (f : Linear) (n : Option ℤ) → NamesBelow first f → All (IsNamed (first + 1)) (quotient_rows f n first)
quotient-named first f None h = nothing (first + 1)
quotient-named first f (Some (negsuc n)) h = nothing (first + 1)
quotient-named first f (Some (pos zero)) h = nothing (first + 1)
quotient-named first f (Some (pos (suc n))) h =
    let below : NamesBelow (first + 1) f = below-more first (first + 1) f (omega arith) h in
    two_rows (first + 1) (difference_of f (multiple_form (pos (suc n)) first (pos 0))) (difference_of (multiple_form (pos (suc n)) first (pos n)) f)
    (named_result (first + 1) (difference_of f (multiple_form (pos (suc n)) first (pos 0)))
    (λ form e. below-difference (first + 1) f (multiple_form (pos (suc n)) first (pos 0)) form e below (below-multiple (first + 1) first (pos (suc n)) (pos 0) (next first))))
    (named_result (first + 1) (difference_of (multiple_form (pos (suc n)) first (pos n)) f)
    (λ form e. below-difference (first + 1) (multiple_form (pos (suc n)) first (pos n)) f form e (below-multiple (first + 1) first (pos (suc n)) (pos n) (next first)) below))

remainder-named : (first : ℕ) (g : Linear) → NamesBelow first g → All (IsNamed (first + 1)) (remainder_rows g first)
remainder-named first g h =
    let here : NamesBelow (first + 1) (variable_form first) = below-variable (first + 1) first (next first) in
    two_rows (first + 1) (Ok (variable_form first)) (excess_of g (variable_form first)) here
    (named_result (first + 1) (excess_of g (variable_form first))
    (λ form e. below-excess (first + 1) g (variable_form first) form e (below-more first (first + 1) g (omega arith) h) here))

quotient-op : (first : ℕ) (types : List Ty) (r : Rule) → quotient first types ≡ Ok r → All (TypeBelow first) types → Rows first r
unfolding quotient
quotient-op first types r e below =
    let s = then_ok (two_numbers types) _ r e in
    let t = then_ok (needed (difference_of s.value.1 (constant_form (pos 1)))) _ r s.second in
    same_rows first _ r t.second
    (quotient-named first s.value.0 (number_of s.value.1) (below_first first types (ty.Int s.value.0) (ty.Int s.value.1 ∷ []) (two_numbers_is types s.value s.first) below))

remainder-op : (first : ℕ) (types : List Ty) (r : Rule) → remainder first types ≡ Ok r → All (TypeBelow first) types → Rows first r
unfolding remainder
remainder-op first types r e below =
    let s = then_ok (two_numbers types) _ r e in
    let t = then_ok (needed (difference_of s.value.1 (constant_form (pos 1)))) _ r s.second in
    same_rows first _ r t.second
    (remainder-named first s.value.1 (below_second first types (ty.Int s.value.0) (ty.Int s.value.1) [] (two_numbers_is types s.value s.first) below))

-- ---- closed types

opened-rows : (first vars : ℕ) (rows : List Linear) → All (NamesBelow vars) rows → All (IsNamed (first + vars)) (map (λ row. let x : Result Linear TooLarge = Ok (shifted first row) in x) rows)
opened-rows first vars [] named = nothing (first + vars)
opened-rows first vars (row ∷ rows) named =
    All-cons (IsNamed (first + vars)) (Ok (shifted first row)) (map (λ row. let x : Result Linear TooLarge = Ok (shifted first row) in x) rows)
    (NamesBelow-shifted first vars row (All-head (NamesBelow vars) row rows named)) (opened-rows first vars rows (All-tail (NamesBelow vars) row rows named))

measured-op : (first : ℕ) (types : List Ty) (r : Rule) → measured types ≡ Ok r → All (TypeBelow first) types → Rows first r
unfolding measured
measured-op first types r e below =
    let s = then_ok (one_type types) _ r e in
    let t = then_ok (as_array s.value) _ r s.second in
    let is = one_type_is types s.value s.first ∙ ap (λ x. x ∷ []) (as_array_is s.value t.value t.first) in
    let named : NamesBelow first t.value.1 = below_first first types (ty.Array t.value.0 t.value.1) [] is below in
    same_rows first _ r t.second
    (All-cons (IsNamed (first + 0)) (Ok t.value.1) [] (below-more first (first + 0) t.value.1 (omega arith) named) (All-nil (IsNamed (first + 0))))

loaded-op : (st : Setting) (first : ℕ) (types : List Ty) (r : Rule) → All IsClosed st.table → loaded st first types ≡ Ok r → Rows first r
unfolding loaded
loaded-op st first types r closed e =
    let s = then_ok (two_types types) _ r e in
    let t = then_ok (as_array s.value.0) _ r s.second in
    let u = then_ok (as_number s.value.1) _ r t.second in
    let v = then_ok (needed (excess_of t.value.1 u.value)) _ r u.second in
    let w = then_ok (cell_at st.table t.value.0) _ r v.second in
    same_rows first _ r w.second (opened-rows first w.value.vars w.value.rows (cell_closed st.table t.value.0 w.value closed w.first).rows)

split-op : (st : Setting) (first number count : ℕ) (types : List Ty) (r : Rule) → All IsClosed st.table → split st first number count types ≡ Ok r → Rows first r
unfolding split
split-op st first number count types r closed e =
    let s = then_ok (tuple_at st.table number) _ r e in
    let t = then_ok (one_type types) _ r s.second in
    let u = then_ok (as_many (length s.value.parts) count) _ r t.second in
    let v = then_ok (as_tuple number t.value) _ r u.second in
    same_rows first _ r v.second (opened-rows first s.value.vars s.value.rows (tuple_closed st.table number s.value closed s.first).rows)

stored-op : (st : Setting) (first : ℕ) (types : List Ty) (r : Rule) → stored st types ≡ Ok r → Rows first r
unfolding stored
stored-op st first types r e =
    let s = then_ok (three_types types) _ r e in
    let t = then_ok (as_array s.value.0) _ r s.second in
    let u = then_ok (as_number s.value.1) _ r t.second in
    let v = then_ok (cell_at st.table t.value.0) _ r u.second in
    let w = then_ok (of_kinds v.value.parts (s.value.2 ∷ [])) _ r v.second in
    let x = then_ok (needed (excess_of t.value.1 u.value)) _ r w.second in
    let y = then_ok (matching_packed v.value (s.value.2 ∷ [])) _ r x.second in
    same_rows first _ r y.second (nothing (first + 0))

allocated-op : (st : Setting) (first cells : ℕ) (types : List Ty) (r : Rule) → allocated st cells types ≡ Ok r → Rows first r
unfolding allocated
allocated-op st first cells types r e =
    let s = then_ok (cell_at st.table cells) _ r e in
    let t = then_ok (two_types types) _ r s.second in
    let u = then_ok (as_number t.value.0) _ r t.second in
    let v = then_ok (matching_packed s.value (t.value.1 ∷ [])) _ r u.second in
    same_rows first _ r v.second (nothing (first + 0))

constructed-op : (st : Setting) (first number : ℕ) (types : List Ty) (r : Rule) → constructed st number types ≡ Ok r → Rows first r
unfolding constructed
constructed-op st first number types r e =
    let s = then_ok (tuple_at st.table number) _ r e in
    let t = then_ok (matching_packed s.value types) _ r s.second in
    same_rows first _ r t.second (nothing (first + 0))

-- ---- calls

pub values-both : (n : ℕ) (values : List (ℕ × Linear)) (number first count : ℕ) → ValuesBelow n values → first + count ≤ n → ValuesBelow n (values ++ variables_from number first count)
unfolding variables_from
values-both n [] number first zero all h = All-nil (λ v. NamesBelow n v.1)
values-both n [] number first (suc count) all h =
    let P : ℕ × Linear → Type 0 = λ v. NamesBelow n v.1 in
    All-cons P (number, variable_form first) (variables_from (suc number) (suc first) count) (below-variable n first (omega (arith, h)))
    (values-both n [] (suc number) (suc first) count (All-nil P) (omega (arith, h)))
values-both n (v ∷ vs) number first count all h =
    let P : ℕ × Linear → Type 0 = λ v. NamesBelow n v.1 in
    All-cons P v (vs ++ variables_from number first count) (All-head P v vs all) (values-both n vs number first count (All-tail P v vs all) h)

result-rows : (n : ℕ) (values : List (ℕ × Linear)) (rows : List Linear) → ValuesBelow n values → All (IsNamed n) (map (subst_of values 0) rows)
result-rows n values [] all = nothing n
result-rows n values (row ∷ rows) all =
    All-cons (IsNamed n) (subst_of values 0 row) (map (subst_of values 0) rows)
    (named_result n (subst_of values 0 row) (λ form e. below-subst n 0 values row form (omega arith) all e)) (result-rows n values rows all)

called-op : (st : Setting) (first fun : ℕ) (types : List Ty) (r : Rule) → called st first fun types ≡ Ok r → All (TypeBelow first) types → Rows first r
unfolding called
called-op st first fun types r e below =
    let s = then_ok (or_fault NoTarget (slice_get st.sigs fun)) _ r e in
    let t = then_ok (matching 0 s.value.vars s.value.rows s.value.params types) _ r s.second in
    let n = first + s.value.result_vars in
    let more : All (TypeBelow n) types = λ k d h. type-more first n (get_or types k d) (omega arith) (below k d h) in
    let m = matching_is 0 s.value.vars s.value.rows s.value.params types t.value t.first in
    let found = match-below 0 s.value.vars n s.value.rows s.value.params types t.value m.is (omega arith) more in
    same_rows first _ r t.second
    (result-rows n (t.value.values ++ variables_from s.value.vars first s.value.result_vars) s.value.result_rows
    (values-both n t.value.values s.value.vars first s.value.result_vars found.values (omega arith)))

-- ---- all operations

pub rows_named : (st : Setting) (op : Operation) (types : List Ty) (first : ℕ) (r : Rule) → All IsClosed st.table → rule st op types first ≡ Ok r → All (TypeBelow first) types
    → All (IsNamed (first + r.fresh)) r.assumed
unfolding rule returned
rows_named st (Literal n) types first r closed e below = (let s = then_ok (no_types types) _ r e in same_rows first _ r s.second (number-rows first (sized [] n)))
rows_named st (Truth b) types first r closed e below = (let s = then_ok (no_types types) _ r e in same_rows first _ r s.second (nothing (first + 0)))
rows_named st Move types first r closed e below = (let s = then_ok (one_type types) _ r e in same_rows first _ r s.second (nothing (first + 0)))
rows_named st Add types first r closed e below = (let s = then_ok (two_numbers types) _ r e in same_rows first _ r s.second (number-rows first (sum_of s.value.0 s.value.1)))
rows_named st Sub types first r closed e below = (let s = then_ok (two_numbers types) _ r e in same_rows first _ r s.second (number-rows first (difference_of s.value.0 s.value.1)))
rows_named st Mul types first r closed e below =
    (let s = then_ok (two_numbers types) _ r e in
    same_rows first _ r s.second (product-rows first s.value.0 (number_of s.value.0) s.value.1 (number_of s.value.1)))
rows_named st Div types first r closed e below = quotient-op first types r e below
rows_named st Mod types first r closed e below = remainder-op first types r e below
rows_named st (Compare c) types first r closed e below = (let s = then_ok (two_numbers types) _ r e in same_rows first _ r s.second (nothing (first + 0)))
rows_named st (Branch c) types first r closed e below = (let s = then_ok (two_numbers types) _ r e in same_rows first _ r s.second (nothing (first + 0)))
rows_named st (BranchTruth b) types first r closed e below =
    (let s = then_ok (one_type types) _ r e in
    let t = then_ok (as_truth s.value) _ r s.second in
    same_rows first _ r t.second (nothing (first + 0)))
rows_named st Jump types first r closed e below = (let s = then_ok (no_types types) _ r e in same_rows first _ r s.second (nothing (first + 0)))
rows_named st (Call fun) types first r closed e below = called-op st first fun types r e below
rows_named st Return types first r closed e below =
    (let s = then_ok (matching st.own.vars (st.own.vars + st.own.result_vars) st.own.result_rows (st.own.result ∷ []) types) _ r e in
    same_rows first _ r s.second (nothing (first + 0)))
rows_named st Length types first r closed e below = measured-op first types r e below
rows_named st Load types first r closed e below = loaded-op st first types r closed e
rows_named st Store types first r closed e below = stored-op st first types r e
rows_named st (New cells) types first r closed e below = allocated-op st first cells types r e
rows_named st (Tuple number) types first r closed e below = constructed-op st first number types r e
rows_named st (Untuple number count) types first r closed e below = split-op st first number count types r closed e
rows_named st Print types first r closed e below =
    (let s = then_ok (one_type types) _ r e in
    let t = then_ok (as_number s.value) _ r s.second in
    same_rows first _ r t.second (nothing (first + 0)))
