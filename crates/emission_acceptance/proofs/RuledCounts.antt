-- An operation's rule gives a type for each place that the operation writes.
use Rattle.std.proofs.Common.{◌≡◌, ℕ, zero, suc, ◌+◌, ◌≤◌, ◌==◌, ℤ, pos, Bool, true, false, List, [], ◌∷◌, length, take, drop, Option, Some, None, Result, Ok, Err, slice_get, if◌then◌else◌, refl, sym, ap, subst, ◌∙◌, arith}
use Rattle.std.proofs.lemmas.Bool.Decides.{nat_tests}
use Rattle.std.proofs.lemmas.Option.{none-some, same_Some}
use Rattle.std.proofs.lemmas.List.{length-map}
use Rattle.index_sorts.specs.Context.{IndexContext}
use Rattle.xan_lin.specs.Linear.{Linear, sized, sum_of, difference_of, excess_of, product_of}
use Rattle.xan_lin.specs.declared.term.TooLarge.{TooLarge}
use Rattle.state_types.proofs.Thens.{then_ok, ok_same}
use Rattle.state_types.specs.Unpacking.{shifted_type}
use Rattle.state_types.specs.declared.closed.Packed.{Packed}
use Rattle.state_types.specs.declared.types.Ty.{Ty}
use Rattle.operation_rules.specs.Applied.{Ruled, all_given, all_there, applied, named, ruled}
use Rattle.operation_rules.specs.Faults.{Ruling, needed, or_fault}
use Rattle.operation_rules.specs.declared.error.Fault.TheVariants.{NoTarget, NoType, WrongCount}
use Rattle.operation_rules.specs.declared.rule.Rule.{Rule}
use Rattle.operation_rules.specs.Forms.{constant_form, number_of}
use Rattle.operation_rules.specs.Operations.{needs}
use Rattle.operation_rules.specs.Rules.{Setting, gives_number, opens, product, no_types, one_type, two_types, two_numbers, as_number, as_array, as_tuple, tuple_at, cell_with, cell_at, as_many, matching, matching_packed, quotient, remainder, measured, loaded, allocated, constructed, split, called, rule}
use Rattle.operation_rules.specs.declared.operation.Operation.{Operation}
use Rattle.operation_rules.specs.declared.operation.Operation.TheVariants.{Literal, Truth, Move, Add, Sub, Mul, Div, Mod, Compare, Branch, BranchTruth, Jump, Call, Return, Length, Load, Store, New, Tuple, Untuple, Print}
use Rattle.state_types.specs.declared.types.Ty.TheVariants as ty
use Rattle.operation_rules.proofs.RuleFacts.{or_fault_ok, parts_of}
use Rattle.three_address.specs.Instructions.{Instruction, are_enough, with_places, with_operation, operation_of, instruction_of}
use Rattle.three_address.specs.declared.instruction.LowInstr.{LowInstr}
use Rattle.emission_laws.proofs.KindsOfInstructions.{same_operation}

-- ---- rules

-- what the cells of an array hold is at least one word
abbrev pub HaveCells : List Packed → Type 0
HaveCells table = (number : ℕ) (packed : Packed) → slice_get table number ≡ Some packed → packed.tuple ≡ false → 1 ≤ length packed.parts

same_count : (n : ℕ) (made r : Rule) → (let x : Ruling Rule = Ok made in x) ≡ Ok r → n ≤ length made.given → n ≤ length r.given
same_count n made r e g = subst (λ x. n ≤ length x.given) (ok_same made r e) g

one_number : (first : ℕ) (form : Result Linear TooLarge) → 1 ≤ length (gives_number first form).given
one_number first (Ok form) = omega arith
one_number first (Err why) = omega arith

one_product : (first : ℕ) (f : Linear) (m : Option ℤ) (g : Linear) (n : Option ℤ) → 1 ≤ length (product first f m g n).given
one_product first f m g (Some n) = one_number first (product_of f n)
one_product first f (Some m) g None = one_number first (product_of g m)
one_product first f None g None = omega arith

cells_if : (number : ℕ) (packed : Packed) (b : Bool) → packed.tuple ≡ b → (packed.tuple ≡ false → 1 ≤ length packed.parts) → 1 ≤ length (cell_with number packed).parts
cells_if number packed true e h =
    (let is : length (cell_with number packed).parts ≡ 1 = ap (λ b. length (let x : Packed = if b then record { vars = 0; rows = []; parts = ty.Named number ∷ []; tuple = false } else packed in x).parts) e in omega (arith, is))
cells_if number packed false e h =
    (let is : length (cell_with number packed).parts ≡ length packed.parts = ap (λ b. length (let x : Packed = if b then record { vars = 0; rows = []; parts = ty.Named number ∷ []; tuple = false } else packed in x).parts) e in
    let many = h e in omega (arith, is, many))

cell_count : (table : List Packed) (number : ℕ) (packed : Packed) → HaveCells table → cell_at table number ≡ Ok packed → 1 ≤ length packed.parts
unfolding cell_at
cell_count table number packed have e =
    let s = then_ok (or_fault NoType (slice_get table number)) _ packed e in
    let there = or_fault_ok NoType (slice_get table number) s.value s.first in
    subst (λ (p : Packed). 1 ≤ length p.parts) (ok_same _ packed s.second) (cells_if number s.value s.value.tuple refl (have number s.value there))

part_types : (first : ℕ) (demands : List Linear) (packed : Packed) → length (opens first demands packed).given ≡ length packed.parts
part_types first demands packed = length-map packed.parts (λ part. let x : Result Ty TooLarge = Ok (shifted_type first part) in x)

quotient_count : (first : ℕ) (types : List Ty) (r : Rule) → quotient first types ≡ Ok r → 1 ≤ length r.given
unfolding quotient
quotient_count first types r e =
    let s = then_ok (two_numbers types) _ r e in
    let t = then_ok (needed (difference_of s.value.1 (constant_form (pos 1)))) _ r s.second in
    same_count 1 _ r t.second (omega arith)

remainder_count : (first : ℕ) (types : List Ty) (r : Rule) → remainder first types ≡ Ok r → 1 ≤ length r.given
unfolding remainder
remainder_count first types r e =
    let s = then_ok (two_numbers types) _ r e in
    let t = then_ok (needed (difference_of s.value.1 (constant_form (pos 1)))) _ r s.second in
    same_count 1 _ r t.second (omega arith)

measured_count : (types : List Ty) (r : Rule) → measured types ≡ Ok r → 1 ≤ length r.given
unfolding measured
measured_count types r e =
    let s = then_ok (one_type types) _ r e in
    let t = then_ok (as_array s.value) _ r s.second in
    same_count 1 _ r t.second (omega arith)

loaded_count : (st : Setting) (first : ℕ) (types : List Ty) (r : Rule) → HaveCells st.table → loaded st first types ≡ Ok r → 1 ≤ length r.given
unfolding loaded
loaded_count st first types r have e =
    let s = then_ok (two_types types) _ r e in
    let t = then_ok (as_array s.value.0) _ r s.second in
    let u = then_ok (as_number s.value.1) _ r t.second in
    let v = then_ok (needed (excess_of t.value.1 u.value)) _ r u.second in
    let w = then_ok (cell_at st.table t.value.0) _ r v.second in
    let many = cell_count st.table t.value.0 w.value have w.first in
    let parts = part_types first (u.value ∷ v.value ∷ []) w.value in
    same_count 1 _ r w.second (omega (arith, many, parts))

allocated_count : (st : Setting) (cells : ℕ) (types : List Ty) (r : Rule) → allocated st cells types ≡ Ok r → 1 ≤ length r.given
unfolding allocated
allocated_count st cells types r e =
    let s = then_ok (cell_at st.table cells) _ r e in
    let t = then_ok (two_types types) _ r s.second in
    let u = then_ok (as_number t.value.0) _ r t.second in
    let v = then_ok (matching_packed s.value (t.value.1 ∷ [])) _ r u.second in
    same_count 1 _ r v.second (omega arith)

constructed_count : (st : Setting) (number : ℕ) (types : List Ty) (r : Rule) → constructed st number types ≡ Ok r → 1 ≤ length r.given
unfolding constructed
constructed_count st number types r e =
    let s = then_ok (tuple_at st.table number) _ r e in
    let t = then_ok (matching_packed s.value types) _ r s.second in
    same_count 1 _ r t.second (omega arith)

many_is : (wanted actual : ℕ) (b : Bool) → wanted == actual ≡ b → (let x : Ruling (Unit {0}) = if b then Ok tt else Err WrongCount in x) ≡ Ok tt → wanted ≡ actual
many_is wanted actual true t e = grind (arith, nat_tests)
many_is wanted actual false t e = absurd (let bad : ⊥ = cc in bad)

split_count : (st : Setting) (first number count : ℕ) (types : List Ty) (r : Rule) → split st first number count types ≡ Ok r → count ≤ length r.given
unfolding split
split_count st first number count types r e =
    let s = then_ok (tuple_at st.table number) _ r e in
    let t = then_ok (one_type types) _ r s.second in
    let u = then_ok (as_many (length s.value.parts) count) _ r t.second in
    let v = then_ok (as_tuple number t.value) _ r u.second in
    let many = many_is (length s.value.parts) count (length s.value.parts == count) refl u.first in
    let parts = part_types first [] s.value in
    same_count count _ r v.second (omega (arith, many, parts))

called_count : (st : Setting) (first fun : ℕ) (types : List Ty) (r : Rule) → called st first fun types ≡ Ok r → 1 ≤ length r.given
unfolding called
called_count st first fun types r e =
    let s = then_ok (or_fault NoTarget (slice_get st.sigs fun)) _ r e in
    let t = then_ok (matching 0 s.value.vars s.value.rows s.value.params types) _ r s.second in
    same_count 1 _ r t.second (omega arith)

rule_count : (st : Setting) (op : Operation) (types : List Ty) (first : ℕ) (r : Rule) → HaveCells st.table → rule st op types first ≡ Ok r → (needs op).writes ≤ length r.given
unfolding rule
rule_count st (Literal n) types first r have e = (let s = then_ok (no_types types) _ r e in same_count 1 _ r s.second (one_number first (sized [] n)))
rule_count st (Truth b) types first r have e = (let s = then_ok (no_types types) _ r e in same_count 1 _ r s.second (omega arith))
rule_count st Move types first r have e = (let s = then_ok (one_type types) _ r e in same_count 1 _ r s.second (omega arith))
rule_count st Add types first r have e = (let s = then_ok (two_numbers types) _ r e in same_count 1 _ r s.second (one_number first (sum_of s.value.0 s.value.1)))
rule_count st Sub types first r have e = (let s = then_ok (two_numbers types) _ r e in same_count 1 _ r s.second (one_number first (difference_of s.value.0 s.value.1)))
rule_count st Mul types first r have e =
    (let s = then_ok (two_numbers types) _ r e in
    same_count 1 _ r s.second (one_product first s.value.0 (number_of s.value.0) s.value.1 (number_of s.value.1)))
rule_count st Div types first r have e = quotient_count first types r e
rule_count st Mod types first r have e = remainder_count first types r e
rule_count st (Compare c) types first r have e = (let s = then_ok (two_numbers types) _ r e in same_count 1 _ r s.second (omega arith))
rule_count st (Branch c) types first r have e = omega arith
rule_count st (BranchTruth b) types first r have e = omega arith
rule_count st Jump types first r have e = omega arith
rule_count st (Call fun) types first r have e = called_count st first fun types r e
rule_count st Return types first r have e = omega arith
rule_count st Length types first r have e = measured_count types r e
rule_count st Load types first r have e = loaded_count st first types r have e
rule_count st Store types first r have e = omega arith
rule_count st (New cells) types first r have e = allocated_count st cells types r e
rule_count st (Tuple number) types first r have e = constructed_count st number types r e
rule_count st (Untuple number count) types first r have e = split_count st first number count types r e
rule_count st Print types first r have e = omega arith

-- ---- what is applied

given_count : (given : List (Result Ty TooLarge)) (types : List Ty) → all_given given ≡ Ok types → length given ≡ length types
unfolding all_given
given_count [] types e = ap length (ok_same [] types e)
given_count (t ∷ given) types e =
    let a = then_ok t _ types e in
    let b = then_ok (all_given given) _ types a.second in
    ap suc (given_count given b.value b.first) ∙ ap length (ok_same (a.value ∷ b.value) types b.second)

-- the parts of what is ruled
pub record RuledParts (st : Setting) (op : Operation) (places : List (Option Ty)) (ctx : IndexContext) (given : Ruled) : Type 0 where
  pub names : named st op ≡ Ok tt
  pub types : List Ty
  pub there : all_there places ≡ Ok types
  pub r : Rule
  pub is_rule : rule st op types ctx.vars ≡ Ok r
  pub does : applied r ctx ≡ Ok given

pub ruled_parts : (st : Setting) (op : Operation) (places : List (Option Ty)) (ctx : IndexContext) (given : Ruled) → ruled st op places ctx ≡ Ok given
    → RuledParts st op places ctx given
unfolding ruled
ruled_parts st op places ctx given e =
    let a = then_ok (named st op) _ given e in
    let b = then_ok (all_there places) _ given a.second in
    let c = then_ok (rule st op b.value ctx.vars) _ given b.second in
    record { names = a.first; types = b.value; there = b.first; r = c.value; is_rule = c.first; does = c.second }

pub types_count : (st : Setting) (op : Operation) (places : List (Option Ty)) (ctx : IndexContext) (given : Ruled) → HaveCells st.table → RuledParts st op places ctx given
    → (needs op).writes ≤ length given.types
types_count st op places ctx given have parts =
    let p = parts_of parts.r ctx given parts.does in
    let a = rule_count st op parts.types ctx.vars parts.r have parts.is_rule in
    let b = given_count parts.r.given given.types p.given in
    omega (arith, a, b)

-- ---- forms

take_few : {A : Type 0} (n : ℕ) (xs : List A) → length (take n xs) ≤ n
take_few zero xs = omega arith
take_few (suc n) [] = omega arith
take_few (suc n) (x ∷ xs) = (let h = take_few n xs in omega (arith, h))

drop_one : {A : Type 0} (xs : List A) (n : ℕ) → length xs ≡ n + 1 → length (drop 1 xs) ≤ n
drop_one [] n e = absurd (omega (arith, e))
drop_one (x ∷ xs) n e = omega (arith, e)

few_places : (o : Operation) (places : List ℕ) → are_enough (needs o).reads (needs o).writes (length places) ≡ true → length (with_places o places).writes ≤ (needs o).writes
few_places (Untuple number count) places e = drop_one places count (grind (arith, nat_tests))
few_places o places e = take_few (needs o).writes places

counted_if : (b : Bool) (o : Operation) (places : List ℕ) (form : Instruction) → are_enough (needs o).reads (needs o).writes (length places) ≡ b
    → (if b then Some (with_places o places) else None) ≡ Some form → length form.writes ≤ (needs o).writes
counted_if true o places form t e = subst (λ (x : Instruction). length x.writes ≤ (needs o).writes) (same_Some (with_places o places) form e) (few_places o places t)
counted_if false o places form t e = absurd (none-some form e)

same_if : (b : Bool) (o : Operation) (places : List ℕ) (form : Instruction) → (if b then Some (with_places o places) else None) ≡ Some form → form.operation ≡ o
same_if true o places form e = ap (λ (x : Instruction). x.operation) (sym (same_Some (with_places o places) form e)) ∙ same_operation o places
same_if false o places form e = absurd (none-some form e)

by_operation : (o : Option Operation) (places : List ℕ) (form : Instruction) → with_operation o places ≡ Some form → length form.writes ≤ (needs form.operation).writes
by_operation None places form e = absurd (none-some form e)
by_operation (Some o) places form e =
    let b = are_enough (needs o).reads (needs o).writes (length places) in
    subst (λ x. length form.writes ≤ (needs x).writes) (sym (same_if b o places form e)) (counted_if b o places form refl e)

pub form_writes : (i : LowInstr) (form : Instruction) → instruction_of i ≡ Some form → length form.writes ≤ (needs form.operation).writes
unfolding instruction_of
form_writes i form e = by_operation (operation_of i.op i.number i.target (length i.places)) i.places form e
