-- Types, signatures and rows that pass name only their own variables, which are few.
use Rattle.std.proofs.Common.{◌≡◌, ℕ, suc, ◌+◌, ◌≤◌, ◌<◌, List, [], ◌∷◌, length, nat_lt, Bool as Truth, true, false, Ok, refl, arith}
use Rattle.std.specs.Prelude.{◌&&◌, nat_le, not, bytes_eq}
use Rattle.std.specs.List.{All, list_all, list_any}
use Rattle.std.proofs.lemmas.Bool.{ltb-true, leb-true, and_parts}
use Rattle.std.proofs.lemmas.List.Elements.{All-nil, All-cons, All-head, All-tail}
use Rattle.xan_lin.specs.Linear.{Linear, NamesBelow, variable_form}
use Rattle.state_types.specs.Tables.{IsClosed, int_cell, bool_cell}
use Rattle.state_types.specs.Types.{TypeBelow}
use Rattle.state_types.specs.declared.closed.Packed.{Packed}
use Rattle.state_types.specs.declared.closed.Signature.{Signature}
use Rattle.state_types.specs.declared.types.Ty.{Ty}
use Rattle.state_types.specs.declared.types.Ty.TheVariants as ty
use Rattle.state_types.proofs.Thens.{then_ok}
use Rattle.operation_rules.specs.Settings.{IsFew}
use Rattle.operation_rules.specs.Sound.{IsHeader}
use Rattle.dtal_code.specs.Declarations.{types_exist, are_alone, form_is_below, rows_are_below, type_is_below, types_are_below, typed_types, are_few, packed_verdict, names_own, signature_verdict, numbered}
use Rattle.dtal_code.specs.Verdicts.{asks}
use Rattle.dtal_code.specs.declared.program.Function.{Function}
use Rattle.dtal_code.specs.declared.refusal.Rule.{Rule}
use Rattle.dtal_code.specs.declared.refusal.Rule.TheVariants as rule

-- ---- tests

pub asked : (b : Truth) (broken : Rule) (x : Unit {0}) → asks b broken ≡ Ok x → b ≡ true
asked true broken x e = refl
asked false broken x e = absurd (let bad : ⊥ = cc in bad)

pub test_all : {A : Type 0} (p : A → Truth) (P : A → Type 0) → ((x : A) → p x ≡ true → P x) → (xs : List A) → list_all p xs ≡ true → All P xs
test_all p P f [] e = All-nil P
test_all p P f (x ∷ xs) e = (let b = and_parts (p x) (list_all p xs) e in All-cons P x xs (f x b.0) (test_all p P f xs b.1))

pub form_named : (n : ℕ) (form : Linear) → form_is_below n form ≡ true → NamesBelow n form
form_named n form e = test_all (λ t. nat_lt t.var n) (λ t. t.var < n) (λ t h. ltb-true t.var n h) form.terms e

pub rows_named : (n : ℕ) (rows : List Linear) → rows_are_below n rows ≡ true → All (NamesBelow n) rows
rows_named n rows e = test_all (form_is_below n) (NamesBelow n) (λ row h. form_named n row h) rows e

pub type_named : (n : ℕ) (t : Ty) → type_is_below n t ≡ true → TypeBelow n t
type_named n (ty.Int form) e = form_named n form e
type_named n ty.Bool e = tt
type_named n (ty.Array element form) e = form_named n form e
type_named n (ty.Named number) e = tt

pub types_named : (n : ℕ) (types : List Ty) → types_are_below n types ≡ true → All (TypeBelow n) types
types_named n types e = test_all (type_is_below n) (TypeBelow n) (λ t h. type_named n t h) types e

pub entries_named : (n : ℕ) (entries : List (ℕ × Ty)) → types_are_below n (typed_types entries) ≡ true → All (λ e. TypeBelow n e.1) entries
entries_named n [] e = All-nil (λ e. TypeBelow n e.1)
entries_named n (entry ∷ entries) e =
    let b = and_parts (type_is_below n entry.1) (types_are_below n (typed_types entries)) e in
    All-cons (λ e. TypeBelow n e.1) entry entries (type_named n entry.1 b.0) (entries_named n entries b.1)

few_vars : (vars : ℕ) (rows : List Linear) → are_few vars rows ≡ true → vars ≤ 1024
few_vars vars rows e = (let b = and_parts (nat_le vars 1024) (nat_le (length rows) 512) e in leb-true vars 1024 b.0)

-- ---- types

pub record IsPlain (packed : Packed) : Type 0 where
  pub closed : IsClosed packed
  pub few : packed.vars ≤ 1024

pub packed_plain : (table : List Packed) (packed : Packed) → packed_verdict table packed ≡ Ok tt → IsPlain packed
unfolding packed_verdict
packed_plain table packed e =
    let one = then_ok (asks (types_exist table packed.parts) rule.NoType) _ tt e in
    let two = then_ok (asks (are_alone 0 packed.vars packed.parts) rule.Alone) _ tt one.second in
    let three = then_ok (asks (rows_are_below packed.vars packed.rows && types_are_below packed.vars packed.parts) rule.Form) _ tt two.second in
    let named = and_parts (rows_are_below packed.vars packed.rows) (types_are_below packed.vars packed.parts) (asked _ rule.Form three.value three.first) in
    record {
      closed = record { rows = rows_named packed.vars packed.rows named.0; parts = types_named packed.vars packed.parts named.1 };
      few = few_vars packed.vars packed.rows (asked (are_few packed.vars packed.rows) rule.Size tt three.second);
    }

int_closed : IsClosed int_cell
int_closed = record {
  rows = All-nil (NamesBelow 1);
  parts = All-cons (TypeBelow 1) (ty.Int (variable_form 0)) [] (All-cons (λ t. t.var < 1) _ [] (omega arith) (All-nil (λ t. t.var < 1))) (All-nil (TypeBelow 1));
}

bool_closed : IsClosed bool_cell
bool_closed = record { rows = All-nil (NamesBelow 0); parts = All-cons (TypeBelow 0) ty.Bool [] tt (All-nil (TypeBelow 0)) }

-- with the cells of numbers and of truth values before those that are written
pub cells_closed : (types : List Packed) → All IsClosed types → All IsClosed (int_cell ∷ bool_cell ∷ types)
cells_closed types all = All-cons IsClosed int_cell (bool_cell ∷ types) int_closed (All-cons IsClosed bool_cell types bool_closed all)

-- ---- signatures

header_of : (sig : Signature) → names_own sig ≡ true → IsHeader sig
unfolding names_own
header_of sig e =
    let three = and_parts (rows_are_below sig.vars sig.rows && types_are_below sig.vars sig.params && rows_are_below (sig.vars + sig.result_vars) sig.result_rows)
    (type_is_below (sig.vars + sig.result_vars) sig.result) e in
    let two = and_parts (rows_are_below sig.vars sig.rows && types_are_below sig.vars sig.params) (rows_are_below (sig.vars + sig.result_vars) sig.result_rows) three.0 in
    let one = and_parts (rows_are_below sig.vars sig.rows) (types_are_below sig.vars sig.params) two.0 in
    record {
      rows = rows_named sig.vars sig.rows one.0;
      params = types_named sig.vars sig.params one.1;
      result_rows = rows_named (sig.vars + sig.result_vars) sig.result_rows two.1;
      result = type_named (sig.vars + sig.result_vars) sig.result three.1;
    }

few_of : (sig : Signature) → (are_few sig.vars sig.rows && are_few sig.result_vars sig.result_rows) ≡ true → IsFew sig
few_of sig e =
    let b = and_parts (are_few sig.vars sig.rows) (are_few sig.result_vars sig.result_rows) e in
    record { vars = few_vars sig.vars sig.rows b.0; result_vars = few_vars sig.result_vars sig.result_rows b.1 }

pub record IsPlainSignature (sig : Signature) : Type 0 where
  pub header : IsHeader sig
  pub few : IsFew sig

pub signature_plain : (table : List Packed) (before : List (List ℕ)) (fun : Function) → signature_verdict table before fun ≡ Ok tt → IsPlainSignature fun.sig
unfolding signature_verdict
signature_plain table before fun e =
    let one = then_ok (asks (not (list_any (bytes_eq fun.name) before)) rule.Name) _ tt e in
    let two = then_ok (asks (types_exist table (fun.sig.result ∷ fun.sig.params)) rule.NoType) _ tt one.second in
    let three = then_ok (asks (are_alone 0 fun.sig.vars fun.sig.params && are_alone fun.sig.vars fun.sig.result_vars (fun.sig.result ∷ [])) rule.Alone) _ tt two.second in
    let four = then_ok (asks (names_own fun.sig) rule.Form) _ tt three.second in
    record {
      header = header_of fun.sig (asked (names_own fun.sig) rule.Form four.value four.first);
      few = few_of fun.sig (asked (are_few fun.sig.vars fun.sig.rows && are_few fun.sig.result_vars fun.sig.result_rows) rule.Size tt four.second);
    }

-- ---- where functions begin

pub numbered_named : (vars place : ℕ) (types : List Ty) → All (TypeBelow vars) types → All (λ e. TypeBelow vars e.1) (numbered place types)
unfolding numbered
numbered_named vars place [] all = All-nil (λ (e : ℕ × Ty). TypeBelow vars e.1)
numbered_named vars place (t ∷ types) all =
    All-cons (λ (e : ℕ × Ty). TypeBelow vars e.1) (place, t) (numbered (suc place) types) (All-head (TypeBelow vars) t types all)
    (numbered_named vars (suc place) types (All-tail (TypeBelow vars) t types all))
