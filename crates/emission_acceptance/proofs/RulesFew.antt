-- An operation whose rule is kept reads and writes few places, and names a type that is there.
use Rattle.std.proofs.Common.{◌≡◌, ℕ, zero, suc, ◌+◌, ◌<◌, ◌≤◌, ◌==◌, Bool, true, false, List, [], ◌∷◌, length, Option, Some, None, Ok, Err, slice_get, if◌then◌else◌, refl, sym, ap, subst, ◌∙◌, arith}
use Rattle.std.proofs.lemmas.Bool.Decides.{nat_tests}
use Rattle.std.proofs.lemmas.Option.{none-some, same_Some}
use Rattle.xan_lin.specs.Linear.{Linear}
use Rattle.state_types.proofs.Thens.{then_ok, ok_same}
use Rattle.state_types.specs.declared.closed.Packed.{Packed}
use Rattle.state_types.specs.declared.closed.Signature.{Signature}
use Rattle.state_types.specs.declared.types.Ty.{Ty}
use Rattle.operation_rules.specs.Faults.{Ruling, or_fault}
use Rattle.operation_rules.specs.declared.error.Fault.TheVariants.{NoTarget, NoType, WrongCount}
use Rattle.operation_rules.specs.declared.rule.Rule.{Rule}
use Rattle.operation_rules.specs.Operations.{needs}
use Rattle.operation_rules.specs.Rules.{Setting, no_types, one_type, two_types, three_types, two_numbers, tuple_at, cell_at, as_many, matching, matching_packed, quotient, remainder, measured, loaded, stored, allocated, constructed, split, called, returned, rule}
use Rattle.operation_rules.specs.declared.operation.Operation.{Operation}
use Rattle.operation_rules.specs.declared.operation.Operation.TheVariants.{Literal, Truth, Move, Add, Sub, Mul, Div, Mod, Compare, Branch, BranchTruth, Jump, Call, Return, Length, Load, Store, New, Tuple, Untuple, Print}
use Rattle.operation_rules.proofs.RuleFacts.{or_fault_ok}

-- ---- counts of types

none_counted : (types : List Ty) (x : Unit {0}) → no_types types ≡ Ok x → length types ≡ 0
none_counted [] x e = refl
none_counted (t ∷ types) x e = absurd (let bad : ⊥ = cc in bad)

one_counted : (types : List Ty) (x : Ty) → one_type types ≡ Ok x → length types ≡ 1
one_counted [] x e = absurd (let bad : ⊥ = cc in bad)
one_counted (t ∷ []) x e = refl
one_counted (t ∷ u ∷ types) x e = absurd (let bad : ⊥ = cc in bad)

two_counted : (types : List Ty) (x : Ty × Ty) → two_types types ≡ Ok x → length types ≡ 2
two_counted [] x e = absurd (let bad : ⊥ = cc in bad)
two_counted (t ∷ []) x e = absurd (let bad : ⊥ = cc in bad)
two_counted (t ∷ u ∷ []) x e = refl
two_counted (t ∷ u ∷ v ∷ types) x e = absurd (let bad : ⊥ = cc in bad)

three_counted : (types : List Ty) (x : Ty × Ty × Ty) → three_types types ≡ Ok x → length types ≡ 3
three_counted [] x e = absurd (let bad : ⊥ = cc in bad)
three_counted (t ∷ []) x e = absurd (let bad : ⊥ = cc in bad)
three_counted (t ∷ u ∷ []) x e = absurd (let bad : ⊥ = cc in bad)
three_counted (t ∷ u ∷ v ∷ []) x e = refl
three_counted (t ∷ u ∷ v ∷ w ∷ types) x e = absurd (let bad : ⊥ = cc in bad)

numbers_counted : (types : List Ty) (x : Linear × Linear) → two_numbers types ≡ Ok x → length types ≡ 2
unfolding two_numbers
numbers_counted types x e = (let s = then_ok (two_types types) _ x e in two_counted types s.value s.first)

many_is : (wanted actual : ℕ) (b : Bool) → wanted == actual ≡ b → (let x : Ruling (Unit {0}) = if b then Ok tt else Err WrongCount in x) ≡ Ok tt → wanted ≡ actual
many_is wanted actual true t e = grind (arith, nat_tests)
many_is wanted actual false t e = absurd (let bad : ⊥ = cc in bad)

matched_count : (below vars : ℕ) (rows : List Linear) (wanted actual : List Ty) (x : _) → matching below vars rows wanted actual ≡ Ok x → length wanted ≡ length actual
unfolding matching
matched_count below vars rows wanted actual x e =
    (let s = then_ok (as_many (length wanted) (length actual)) _ x e in many_is (length wanted) (length actual) (length wanted == length actual) refl s.first)

-- ---- types that are there

there_below : {A : Type 0} (xs : List A) (n : ℕ) (x : A) → slice_get xs n ≡ Some x → n < length xs
there_below [] n x e = absurd (none-some x e)
there_below (y ∷ xs) zero x e = omega arith
there_below (y ∷ xs) (suc n) x e = (let h = there_below xs n x e in omega (arith, h))

cell_there : (table : List Packed) (n : ℕ) (packed : Packed) → cell_at table n ≡ Ok packed → n < length table
unfolding cell_at
cell_there table n packed e =
    let s = then_ok (or_fault NoType (slice_get table n)) _ packed e in
    there_below table n s.value (or_fault_ok NoType (slice_get table n) s.value s.first)

only_same : (b : Bool) (packed found : Packed) → (let x : Ruling Packed = if b then Ok packed else Err NoType in x) ≡ Ok found → packed ≡ found
only_same true packed found e = ok_same packed found e
only_same false packed found e = absurd (let bad : ⊥ = cc in bad)

pub tuple_there : (table : List Packed) (n : ℕ) (packed : Packed) → tuple_at table n ≡ Ok packed → slice_get table n ≡ Some packed
unfolding tuple_at
tuple_there table n packed e =
    let s = then_ok (or_fault NoType (slice_get table n)) _ packed e in
    or_fault_ok NoType (slice_get table n) s.value s.first ∙ ap Some (only_same s.value.tuple s.value packed s.second)

-- the type that an operation names
abbrev pub named_type : Operation → Option ℕ
named_type (New n) = Some n
named_type (Tuple n) = Some n
named_type (Untuple n count) = Some n
named_type _ = None

-- the function that it calls
abbrev pub called_function : Operation → Option ℕ
called_function (Call n) = Some n
called_function _ = None

-- ---- rules

module _ (st : Setting) (few_parts : (n : ℕ) (packed : Packed) → slice_get st.table n ≡ Some packed → length packed.parts ≤ 8)
    (few_params : (n : ℕ) (sig : Signature) → slice_get st.sigs n ≡ Some sig → length sig.params ≤ 8) where
  -- what is known of an operation whose rule is kept
  pub record AreFewRuled (op : Operation) (types : List Ty) : Type 0 where
    pub few_read : length types ≤ 8
    pub few_written : (needs op).writes ≤ 8
    pub there : (n : ℕ) → named_type op ≡ Some n → n < length st.table
    pub params : (n : ℕ) (sig : Signature) → called_function op ≡ Some n → slice_get st.sigs n ≡ Some sig → length types ≤ length sig.params

  of_two : (op : Operation) (types : List Ty) (x : Linear × Linear) → (needs op).writes ≤ 8 → named_type op ≡ None → called_function op ≡ None → two_numbers types ≡ Ok x → AreFewRuled op types
  of_two op types x w none_named none_called e =
      let c = numbers_counted types x e in
      record {
        few_read = omega (arith, c);
        few_written = w;
        there = λ n f. absurd (none-some n (sym none_named ∙ f));
        params = λ n sig f g. absurd (none-some n (sym none_called ∙ f));
      }

  of_count : (op : Operation) (types : List Ty) (count : ℕ) → count ≤ 3 → (needs op).writes ≤ 8 → named_type op ≡ None → called_function op ≡ None → length types ≡ count → AreFewRuled op types
  of_count op types count few w none_named none_called c = record {
    few_read = omega (arith, c, few);
    few_written = w;
    there = λ n f. absurd (none-some n (sym none_named ∙ f));
    params = λ n sig f g. absurd (none-some n (sym none_called ∙ f));
  }

  called_few : (fun first : ℕ) (types : List Ty) (r : Rule) → called st first fun types ≡ Ok r → AreFewRuled (Call fun) types
  unfolding called
  called_few fun first types r e =
      let s = then_ok (or_fault NoTarget (slice_get st.sigs fun)) _ r e in
      let m = then_ok (matching 0 s.value.vars s.value.rows s.value.params types) _ r s.second in
      let is = or_fault_ok NoTarget (slice_get st.sigs fun) s.value s.first in
      let count = matched_count 0 s.value.vars s.value.rows s.value.params types m.value m.first in
      let few = few_params fun s.value is in
      record {
        few_read = omega (arith, few, count);
        few_written = omega arith;
        there = λ n f. absurd (none-some n f);
        params = λ n sig f g.
            (let same : s.value ≡ sig = same_Some s.value sig (sym is ∙ ap (slice_get st.sigs) (same_Some fun n f) ∙ g) in
            let long = ap (λ (x : Signature). length x.params) same in
            omega (arith, count, long));
      }

  constructed_few : (number : ℕ) (types : List Ty) (r : Rule) → constructed st number types ≡ Ok r → AreFewRuled (Tuple number) types
  unfolding constructed
  constructed_few number types r e =
      let s = then_ok (tuple_at st.table number) _ r e in
      let m = then_ok (matching_packed s.value types) _ r s.second in
      let is = tuple_there st.table number s.value s.first in
      let count = matched_count 0 s.value.vars s.value.rows s.value.parts types m.value m.first in
      let few = few_parts number s.value is in
      record {
        few_read = omega (arith, few, count);
        few_written = omega arith;
        there = λ n f. subst (λ k. k < length st.table) (same_Some number n f) (there_below st.table number s.value is);
        params = λ n sig f g. absurd (none-some n f);
      }

  split_few : (first number count : ℕ) (types : List Ty) (r : Rule) → split st first number count types ≡ Ok r → AreFewRuled (Untuple number count) types
  unfolding split
  split_few first number count types r e =
      let s = then_ok (tuple_at st.table number) _ r e in
      let t = then_ok (one_type types) _ r s.second in
      let u = then_ok (as_many (length s.value.parts) count) _ r t.second in
      let is = tuple_there st.table number s.value s.first in
      let one = one_counted types t.value t.first in
      let many = many_is (length s.value.parts) count (length s.value.parts == count) refl u.first in
      let few = few_parts number s.value is in
      record {
        few_read = omega (arith, one);
        few_written = omega (arith, many, few);
        there = λ n f. subst (λ k. k < length st.table) (same_Some number n f) (there_below st.table number s.value is);
        params = λ n sig f g. absurd (none-some n f);
      }

  allocated_few : (cells : ℕ) (types : List Ty) (r : Rule) → allocated st cells types ≡ Ok r → AreFewRuled (New cells) types
  unfolding allocated
  allocated_few cells types r e =
      let s = then_ok (cell_at st.table cells) _ r e in
      let t = then_ok (two_types types) _ r s.second in
      let two = two_counted types t.value t.first in
      let below = cell_there st.table cells s.value s.first in
      record {
        few_read = omega (arith, two);
        few_written = omega arith;
        there = λ n f. subst (λ k. k < length st.table) (same_Some cells n f) below;
        params = λ n sig f g. absurd (none-some n f);
      }

  returned_few : (types : List Ty) (r : Rule) → returned st.own types ≡ Ok r → AreFewRuled Return types
  unfolding returned
  returned_few types r e =
      let own = st.own in
      let s = then_ok (matching own.vars (own.vars + own.result_vars) own.result_rows (own.result ∷ []) types) _ r e in
      of_count Return types 1 (omega arith) (omega arith) refl refl (sym (matched_count own.vars (own.vars + own.result_vars) own.result_rows (own.result ∷ []) types s.value s.first))

  quotient_few : (first : ℕ) (types : List Ty) (r : Rule) → quotient first types ≡ Ok r → AreFewRuled Div types
  unfolding quotient
  quotient_few first types r e = (let s = then_ok (two_numbers types) _ r e in of_two Div types s.value (omega arith) refl refl s.first)

  remainder_few : (first : ℕ) (types : List Ty) (r : Rule) → remainder first types ≡ Ok r → AreFewRuled Mod types
  unfolding remainder
  remainder_few first types r e = (let s = then_ok (two_numbers types) _ r e in of_two Mod types s.value (omega arith) refl refl s.first)

  measured_few : (types : List Ty) (r : Rule) → measured types ≡ Ok r → AreFewRuled Length types
  unfolding measured
  measured_few types r e = (let s = then_ok (one_type types) _ r e in of_count Length types 1 (omega arith) (omega arith) refl refl (one_counted types s.value s.first))

  loaded_few : (first : ℕ) (types : List Ty) (r : Rule) → loaded st first types ≡ Ok r → AreFewRuled Load types
  unfolding loaded
  loaded_few first types r e = (let s = then_ok (two_types types) _ r e in of_count Load types 2 (omega arith) (omega arith) refl refl (two_counted types s.value s.first))

  stored_few : (types : List Ty) (r : Rule) → stored st types ≡ Ok r → AreFewRuled Store types
  unfolding stored
  stored_few types r e = (let s = then_ok (three_types types) _ r e in of_count Store types 3 (omega arith) (omega arith) refl refl (three_counted types s.value s.first))

  pub rules_few : (op : Operation) (types : List Ty) (first : ℕ) (r : Rule) → rule st op types first ≡ Ok r → AreFewRuled op types
  unfolding rule
  rules_few (Literal n) types first r e = (let s = then_ok (no_types types) _ r e in of_count (Literal n) types 0 (omega arith) (omega arith) refl refl (none_counted types s.value s.first))
  rules_few (Truth b) types first r e = (let s = then_ok (no_types types) _ r e in of_count (Truth b) types 0 (omega arith) (omega arith) refl refl (none_counted types s.value s.first))
  rules_few Move types first r e = (let s = then_ok (one_type types) _ r e in of_count Move types 1 (omega arith) (omega arith) refl refl (one_counted types s.value s.first))
  rules_few Add types first r e = (let s = then_ok (two_numbers types) _ r e in of_two Add types s.value (omega arith) refl refl s.first)
  rules_few Sub types first r e = (let s = then_ok (two_numbers types) _ r e in of_two Sub types s.value (omega arith) refl refl s.first)
  rules_few Mul types first r e = (let s = then_ok (two_numbers types) _ r e in of_two Mul types s.value (omega arith) refl refl s.first)
  rules_few Div types first r e = quotient_few first types r e
  rules_few Mod types first r e = remainder_few first types r e
  rules_few (Compare c) types first r e = (let s = then_ok (two_numbers types) _ r e in of_two (Compare c) types s.value (omega arith) refl refl s.first)
  rules_few (Branch c) types first r e = (let s = then_ok (two_numbers types) _ r e in of_two (Branch c) types s.value (omega arith) refl refl s.first)
  rules_few (BranchTruth b) types first r e = (let s = then_ok (one_type types) _ r e in of_count (BranchTruth b) types 1 (omega arith) (omega arith) refl refl (one_counted types s.value s.first))
  rules_few Jump types first r e = (let s = then_ok (no_types types) _ r e in of_count Jump types 0 (omega arith) (omega arith) refl refl (none_counted types s.value s.first))
  rules_few (Call fun) types first r e = called_few fun first types r e
  rules_few Return types first r e = returned_few types r e
  rules_few Length types first r e = measured_few types r e
  rules_few Load types first r e = loaded_few first types r e
  rules_few Store types first r e = stored_few types r e
  rules_few (New cells) types first r e = allocated_few cells types r e
  rules_few (Tuple number) types first r e = constructed_few number types r e
  rules_few (Untuple number count) types first r e = split_few first number count types r e
  rules_few Print types first r e = (let s = then_ok (one_type types) _ r e in of_count Print types 1 (omega arith) (omega arith) refl refl (one_counted types s.value s.first))
