-- Types and signatures that pass name only their own variables, which are few; and so does what labels and functions begin with.
use Rattle.std.proofs.Common.{◌≡◌, ℕ, suc, ◌≤◌, List, [], ◌∷◌, ◌++◌, map, Bool as Truth, true, Ok, Err, sym, subst, arith}
use Rattle.std.specs.Prelude.{◌&&◌, nat_le}
use Rattle.std.specs.List.{All}
use Rattle.std.proofs.lemmas.Bool.{leb-true, and_parts}
use Rattle.std.proofs.lemmas.List.Elements.{All-nil, All-cons, All-map, All-weaker}
use Rattle.xan_lin.specs.Linear.{Linear, NamesBelow}
use Rattle.state_types.specs.PlaceTypes.{PlacesRise}
use Rattle.state_types.specs.Tables.{IsClosed, int_cell, bool_cell}
use Rattle.state_types.specs.Types.{TypeBelow}
use Rattle.state_types.specs.declared.closed.Packed.{Packed}
use Rattle.state_types.specs.declared.closed.Signature.{Signature}
use Rattle.state_types.specs.declared.state.StateType.{StateType}
use Rattle.state_types.specs.declared.types.Ty.{Ty}
use Rattle.state_types.proofs.Thens.{then_ok}
use Rattle.operation_rules.specs.Settings.{HasFew, IsFew}
use Rattle.operation_rules.specs.Sound.{IsHeader, IsSetting}
use Rattle.dtal_code.specs.Declarations.{rows_are_below, types_are_below, typed_types, packed_verdict, signature_verdict, numbered}
use Rattle.dtal_code.specs.Refusing.{types_walked, signatures_walked}
use Rattle.dtal_code.specs.Verdicts.{Verdict, at_place}
use Rattle.dtal_code.specs.declared.program.DtalProgram.{DtalProgram}
use Rattle.dtal_code.specs.declared.program.Function.{Function}
use Rattle.dtal_code.specs.declared.refusal.Where.{Where}
use Rattle.dtal_code.specs.declared.refusal.Where.TheVariants as where_is
use Rattle.dtal_code.proofs.NamedDeclarations.{rows_named, entries_named, IsPlain, packed_plain, cells_closed, signature_plain, numbered_named}
use Rattle.dtal_verifier.specs.Views.{AreDeclared, IsDeclared, table_with}
use Rattle.instruction_checks.specs.Views.{IsStanding}

-- ---- a place

placed : {A : Type 0} (place : Where) (m : Verdict A) (x : A) → at_place place m ≡ Ok x → m ≡ Ok x
placed place (Ok y) x e = cc
placed place (Err broken) x e = absurd (let bad : ⊥ = cc in bad)

-- ---- types

types_plain : (table : List Packed) (number : ℕ) (types : List Packed) → types_walked table number types ≡ Ok tt → All IsPlain types
unfolding types_walked
types_plain table number [] e = All-nil IsPlain
types_plain table number (packed ∷ types) e =
    let s = then_ok (at_place (where_is.Types number) (packed_verdict table packed)) _ tt e in
    All-cons IsPlain packed types (packed_plain table packed (placed (where_is.Types number) (packed_verdict table packed) tt s.first)) (types_plain table (suc number) types s.second)

pub types_closed : (table : List Packed) (number : ℕ) (types : List Packed) → types_walked table number types ≡ Ok tt → All IsClosed types
types_closed table number types e = All-weaker IsPlain IsClosed (λ p h. h.closed) types (types_plain table number types e)

pub types_few : (table : List Packed) (number : ℕ) (types : List Packed) → types_walked table number types ≡ Ok tt → All (λ packed. packed.vars ≤ 1024) types
types_few table number types e = All-weaker IsPlain (λ packed. packed.vars ≤ 1024) (λ p h. h.few) types (types_plain table number types e)

-- ---- signatures

pub signatures_declared : (table : List Packed) (number : ℕ) (before : List (List ℕ)) (funs : List Function) → signatures_walked table number before funs ≡ Ok tt → All IsDeclared funs
unfolding signatures_walked
signatures_declared table number before [] e = All-nil IsDeclared
signatures_declared table number before (fun ∷ funs) e =
    let s = then_ok (at_place (where_is.Signature number) (signature_verdict table before fun)) _ tt e in
    let plain = signature_plain table before fun (placed (where_is.Signature number) (signature_verdict table before fun) tt s.first) in
    All-cons IsDeclared fun funs (record { header = plain.header; few = plain.few }) (signatures_declared table (suc number) (before ++ fun.name ∷ []) funs s.second)

-- ---- what stands around a function

pub sigs_headers : (funs : List Function) → All IsDeclared funs → All IsHeader (map (λ fun. fun.sig) funs)
sigs_headers funs all = All-map IsHeader (λ fun. fun.sig) funs (All-weaker IsDeclared (λ fun. IsHeader fun.sig) (λ fun h. h.header) funs all)

pub sigs_few : (funs : List Function) → All IsDeclared funs → All IsFew (map (λ fun. fun.sig) funs)
sigs_few funs all = All-map IsFew (λ fun. fun.sig) funs (All-weaker IsDeclared (λ fun. IsFew fun.sig) (λ fun h. h.few) funs all)

pub table_few : (types : List Packed) → All (λ packed. packed.vars ≤ 1024) types → All (λ packed. packed.vars ≤ 1024) (table_with types)
table_few types all =
    All-cons (λ packed. packed.vars ≤ 1024) int_cell (bool_cell ∷ types) (omega arith) (All-cons (λ packed. packed.vars ≤ 1024) bool_cell types (omega arith) all)

-- ---- labels, and where functions begin

pub label_rows : (vars : ℕ) (rows : List Linear) (types : Truth) → (rows_are_below vars rows && types) ≡ true → All (NamesBelow vars) rows
label_rows vars rows types e = rows_named vars rows (and_parts (rows_are_below vars rows) types e).0

pub label_types : (vars : ℕ) (rows : Truth) (places : List (ℕ × Ty)) → (rows && types_are_below vars (typed_types places)) ≡ true → All (λ e. TypeBelow vars e.1) places
label_types vars rows places e = entries_named vars places (and_parts rows (types_are_below vars (typed_types places)) e).1

pub numbered_rises : (low place : ℕ) (types : List Ty) → low ≤ place → PlacesRise low (numbered place types)
unfolding numbered
numbered_rises low place [] le = tt
numbered_rises low place (t ∷ types) le = (le, numbered_rises (suc place) (suc place) types (omega arith))

pub first_stands : (vars : ℕ) (params : List Ty) (state : StateType) → All (TypeBelow vars) params → state.ctx.vars ≡ vars → state.places ≡ numbered 0 params → IsStanding vars state
first_stands vars params state all same places = record {
  own_vars = omega (arith, same);
  below = subst (λ n. All (λ e. TypeBelow n e.1) state.places) (sym same) (subst (λ ps. All (λ e. TypeBelow vars e.1) ps) (sym places) (numbered_named vars 0 params all));
}

pub label_stands : (own vars : ℕ) (rows : Truth) (places : List (ℕ × Ty)) (state : StateType) → nat_le own vars ≡ true → (rows && types_are_below vars (typed_types places)) ≡ true
    → state.ctx.vars ≡ vars → state.places ≡ places → IsStanding own state
label_stands own vars rows places state le named same is =
    let fewer = leb-true own vars le in
    record {
      own_vars = omega (arith, same, fewer);
      below = subst (λ n. All (λ e. TypeBelow n e.1) state.places) (sym same) (subst (λ ps. All (λ e. TypeBelow vars e.1) ps) (sym is) (label_types vars rows places named));
    }

-- ---- the setting of a function

pub has_few : (program : DtalProgram) (own : Function) (table : List Packed) (sigs : List Signature) → table ≡ table_with program.types
    → sigs ≡ map (λ fun. fun.sig) program.funs → AreDeclared program → IsDeclared own → HasFew (record { table = table; sigs = sigs; own = own.sig })
has_few program own table sigs same each declared is = record {
  table = subst (λ ts. All (λ packed. packed.vars ≤ 1024) ts) (sym same) (table_few program.types declared.few);
  sigs = subst (λ ss. All IsFew ss) (sym each) (sigs_few program.funs declared.funs);
  own = is.few;
}

pub is_setting : (program : DtalProgram) (own : Function) (table : List Packed) (sigs : List Signature) → table ≡ table_with program.types
    → sigs ≡ map (λ fun. fun.sig) program.funs → AreDeclared program → IsDeclared own → IsSetting (record { table = table; sigs = sigs; own = own.sig })
is_setting program own table sigs same each declared is = record {
  table = subst (λ ts. All IsClosed ts) (sym same) (cells_closed program.types declared.types);
  sigs = subst (λ ss. All IsHeader ss) (sym each) (sigs_headers program.funs declared.funs);
  own = is.header;
}

-- ---- where types, signatures and the program pass

pub declared_by : (program : DtalProgram) (types : List Packed) (funs : List Function) → types ≡ program.types → funs ≡ program.funs
    → types_walked (table_with types) 2 types ≡ Ok tt → signatures_walked (table_with types) 0 [] funs ≡ Ok tt → AreDeclared program
declared_by program types funs same each e g = record {
  types = subst (λ ts. All IsClosed ts) same (types_closed (table_with types) 2 types e);
  few = subst (λ ts. All (λ packed. packed.vars ≤ 1024) ts) same (types_few (table_with types) 2 types e);
  funs = subst (λ fs. All IsDeclared fs) each (signatures_declared (table_with types) 0 [] funs g);
}
