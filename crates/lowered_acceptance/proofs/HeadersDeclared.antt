-- Types and signatures of lowered code are well made, names differ, and a run begins at `main`.
use Rattle.std.proofs.Common.{◌≡◌, ◌≢◌, inl, inr, ℕ, zero, suc, ◌<◌, ◌==◌, Bool as Truth, true, false, cond, List, [], ◌∷◌, length, option_map, Option, Some, None, Ok, Err, slice_get, if◌then◌else◌, refl, sym, ap, subst, ◌∙◌, arith}
use Rattle.std.specs.Prelude.{bytes_eq, codes}
use Rattle.std.specs.List.{All, AllZip, AllByRecursion, list_all}
use Rattle.std.specs.Option.{option_and_then}
use Rattle.std.proofs.lemmas.Bool.Decides.{nat_tests}
use Rattle.std.proofs.lemmas.Bool.{and_from}
use Rattle.std.proofs.lemmas.Slice.Eq.{bytes_eq-Decides}
use Rattle.std.proofs.lemmas.Option.{none-some, same_Some, slice_get_within}
use Rattle.std.proofs.lemmas.List.Elements.{All-nil, All-cons}
use Rattle.state_types.specs.Answers.{◌>>=◌}
use Rattle.state_types.specs.Tables.{int_cell, bool_cell}
use Rattle.state_types.specs.declared.closed.Packed.{Packed}
use Rattle.state_types.specs.declared.closed.Signature.{Signature}
use Rattle.state_types.specs.declared.types.Ty.{Ty}
use Rattle.state_types.proofs.Thens.{then_ok, ok_same}
use Rattle.operation_rules.specs.Faults.{Ruling, or_fault}
use Rattle.operation_rules.specs.declared.error.Fault.TheVariants.{NoType}
use Rattle.operation_rules.specs.Rules.{tuple_at, only_tuple}
use Rattle.xanadu_tree.specs.declared.types.CoreTy.{CoreTy}
use Rattle.xanadu_tree.specs.declared.types.CoreTy.TheVariants as core_ty
use Rattle.xanadu_tree.specs.declared.types.Kind.{Kind}
use Rattle.xanadu_tree.specs.declared.types.Kind.TheVariants as kind
use Rattle.xanadu_tree.specs.declared.types.Packing.{Packing}
use Rattle.xanadu_tree.specs.BodyRules.{IsType}
use Rattle.xanadu_tree.specs.IndexRules.{Stretch}
use Rattle.xanadu_tree.specs.KindRules.{Header, kind_of, if_tuple, held_kind, tuple_type, cell_kind, result_kind}
use Rattle.xanadu_tree.specs.Plain as core
use Rattle.xanadu_tree.specs.Shaped.{IsPacking, IsFunction, IsNamed, HaveNames, IsArgument}
use Rattle.three_address.specs.Typing.{TypeExists}
use Rattle.three_address.specs.declared.function.LowFun.{LowFun}
use Rattle.typed_core.specs.Forms.{type_of, form_of}
use Rattle.dtal_code.specs.Declarations.{are_alone, is_argument_kind, is_answer_kind}
use Rattle.emission_laws.specs.EmittedRanges.{Each}
use Rattle.emission_laws.specs.FollowedRuns.{main_number}
use Rattle.emission_acceptance.specs.WellHeaded.{IsWellTyped, IsWellSigned, NamesDiffer, IsMain}
use Rattle.lowering.specs.Lowered.{function_of, functions_of}
use Rattle.lowered_acceptance.proofs.TypesDeclared.{IsTypeOf, IsPackedOf, IsSignatureOf, as_long, alone_all}

-- ---- partners

record Partner {A B : Type 0} (R : A → B → Type 0) (ys : List B) (n : ℕ) (x : A) : Type 0 where
  value : B
  there : slice_get ys n ≡ Some value
  holds : R x value

partner : {A B : Type 0} (R : A → B → Type 0) (xs : List A) (ys : List B) (n : ℕ) (x : A) → AllZip R xs ys → slice_get xs n ≡ Some x → Partner R ys n x
partner R [] ys n x all e = absurd (none-some x e)
partner R (z ∷ xs) [] n x all e = absurd all
partner R (z ∷ xs) (y ∷ ys) zero x all e = record { value = y; there = refl; holds = subst (λ a. R a y) (same_Some z x e) all.0 }
partner R (z ∷ xs) (y ∷ ys) (suc n) x all e = (let p = partner R xs ys n x all.1 e in record { value = p.value; there = p.there; holds = p.holds })

-- ---- types that exist

module _ (types : List Packing) (rest : List Packed) (each : AllZip IsPackedOf types rest) where
  abbrev table : List Packed
  table = int_cell ∷ bool_cell ∷ rest

  held_there : (n : ℕ) (found : Option Packing) (held : Kind) → slice_get types n ≡ found → option_and_then (held_kind (suc (suc n))) found ≡ Some held → suc (suc n) < length table
  held_there n None held is e = absurd (none-some held e)
  held_there n (Some p) held is e = (let h = slice_get_within types n p is in let l = as_long IsPackedOf types rest each in omega (arith, h, l))

  pub element_there : (element : ℕ) (held : Kind) → cell_kind types element ≡ Some held → element < length table
  element_there zero held e = omega arith
  element_there (suc zero) held e = omega arith
  element_there (suc (suc n)) held e = held_there n (slice_get types n) held refl e

  only_so : (packed : Packed) (b : Truth) → packed.tuple ≡ b → b ≡ true → (let r : Ruling Packed = if b then Ok packed else Err NoType in r) ≡ Ok packed
  only_so packed true e t = refl
  only_so packed false e t = absurd (let bad : ⊥ = cc in bad)

  tuple_of : (p : Packing) (b : Truth) (packing : Packing) → p.tuple ≡ b → cond b (Some p) None ≡ Some packing → p.tuple ≡ true
  tuple_of p true packing e f = e
  tuple_of p false packing e f = absurd (none-some packing f)

  pub tuple_there : (n : ℕ) (found : Option Packing) (packing : Packing) → slice_get types n ≡ found → option_and_then if_tuple found ≡ Some packing
      → (packed : Packed) × (tuple_at table (suc (suc n)) ≡ Ok packed)
  unfolding tuple_at
  tuple_there n None packing is e = absurd (none-some packing e)
  tuple_there n (Some p) packing is e =
      let q = partner IsPackedOf types rest n p each is in
      let so = q.holds.tuple ∙ tuple_of p p.tuple packing refl e in (
        q.value,
        ap (λ o. or_fault NoType o >>= (λ x. only_tuple x)) q.there ∙ only_so q.value q.value.tuple refl so,
      )

  named_there : (number : ℕ) (packing : Packing) → tuple_type types number ≡ Some packing → (packed : Packed) × (tuple_at table number ≡ Ok packed)
  named_there zero packing e = absurd (none-some packing e)
  named_there (suc zero) packing e = absurd (none-some packing e)
  named_there (suc (suc n)) packing e = tuple_there n (slice_get types n) packing refl e

  type_there : (reach : List Stretch) (t : CoreTy) (u : Ty) → IsType types reach t → IsTypeOf t u → TypeExists table u
  unfolding type_of
  type_there reach (core_ty.Int form) u is e = (let a = then_ok (form_of form) _ u e in subst (TypeExists table) (ok_same _ u a.second) tt)
  type_there reach core_ty.Bool u is e = subst (TypeExists table) (ok_same _ u e) tt
  type_there reach (core_ty.Array element form) u is e =
      (let a = then_ok (form_of form) _ u e in subst (TypeExists table) (ok_same _ u a.second) (element_there element is.0.0 is.0.1))
  type_there reach (core_ty.Named number) u is e = subst (TypeExists table) (ok_same _ u e) (named_there number is.0 is.1)

  types_there : (reach : List Stretch) (ts : List CoreTy) (us : List Ty) → AllByRecursion (IsType types reach) ts → AllZip IsTypeOf ts us → All (TypeExists table) us
  types_there reach [] [] is all = All-nil (TypeExists table)
  types_there reach [] (u ∷ us) is all = absurd all
  types_there reach (t ∷ ts) [] is all = absurd all
  types_there reach (t ∷ ts) (u ∷ us) is all = All-cons (TypeExists table) u us (type_there reach t u is.0 all.0) (types_there reach ts us is.1 all.1)

  -- ---- closed types

  well_typed : (p : Packing) (packed : Packed) → IsPacking types p → IsPackedOf p packed → IsWellTyped table packed
  well_typed p packed is of = record {
    exist = types_there _ p.parts packed.parts is.parts of.parts;
    alone = subst (λ n. are_alone 0 n packed.parts ≡ true) (sym of.vars) (alone_all 0 p.quant.count p.parts packed.parts (λ variable low high. is.quantified.told variable (low, high)) of.parts);
    few_vars = of.few_vars;
    few_rows = of.few_rows;
  }

  pub all_well_typed : (ps : List Packing) (packs : List Packed) → AllByRecursion (IsPacking types) ps → AllZip IsPackedOf ps packs → Each (IsWellTyped table) packs
  all_well_typed [] [] is all = tt
  all_well_typed [] (packed ∷ packs) is all = absurd all
  all_well_typed (p ∷ ps) [] is all = absurd all
  all_well_typed (p ∷ ps) (packed ∷ packs) is all = (well_typed p packed is.0 all.0, all_well_typed ps packs is.1 all.1)

  -- ---- signatures

  well_signed : (headers : List Header) (f : core.Fun) (sig : Signature) → IsFunction types headers f → IsSignatureOf f sig → IsWellSigned table sig
  well_signed headers f sig is of =
      let few = of.few_vars in
      record {
        exist = All-cons (TypeExists table) sig.result sig.params (type_there _ f.result sig.result is.result of.result) (types_there _ f.params sig.params is.params of.params);
        alone = subst (λ n. are_alone 0 n sig.params ≡ true) (sym of.vars)
            (alone_all 0 f.quant.count f.params sig.params (λ variable low high. is.quantified.told variable (low, high)) of.params);
        result_alone = subst (λ n. are_alone n sig.result_vars (sig.result ∷ []) ≡ true) (sym of.vars)
            (subst (λ n. are_alone f.quant.count n (sig.result ∷ []) ≡ true) (sym of.result_vars)
            (alone_all f.quant.count f.result_quant.count (f.result ∷ []) (sig.result ∷ []) (λ variable low high. is.result_quantified.told variable (low, high)) (of.result, tt)));
        few_vars = omega (arith, few);
        few_rows = of.few_rows;
        few_result_vars = omega (arith, few);
        few_result_rows = of.few_result_rows;
      }

  pub all_well_signed : (program : core.Program) (headers : List Header) (fs : List core.Fun) (sigs : List Signature) → AllByRecursion (IsFunction types headers) fs → AllZip IsSignatureOf fs sigs
      → Each (λ (fun : LowFun). IsWellSigned table fun.sig) (functions_of program fs sigs)
  unfolding functions_of
  all_well_signed program headers [] sigs is all = tt
  all_well_signed program headers (f ∷ fs) [] is all = tt
  all_well_signed program headers (f ∷ fs) (sig ∷ sigs) is all = (well_signed headers f sig is.0 all.0, all_well_signed program headers fs sigs is.1 all.1)

-- ---- names

others_differ : (program : core.Program) (name : List ℕ) (fs : List core.Fun) (sigs : List Signature) → (IsNamed name fs → ⊥) → Each (λ (other : LowFun). name ≢ other.name) (functions_of program fs sigs)
unfolding functions_of
others_differ program name [] sigs new = tt
others_differ program name (f ∷ fs) [] new = tt
others_differ program name (f ∷ fs) (sig ∷ sigs) new = (λ e. absurd (new (inl e)), others_differ program name fs sigs (λ n. new (inr n)))

pub names_differ : (program : core.Program) (fs : List core.Fun) (sigs : List Signature) → HaveNames fs → NamesDiffer (functions_of program fs sigs)
unfolding functions_of
names_differ program [] sigs names = tt
names_differ program (f ∷ fs) [] names = tt
names_differ program (f ∷ fs) (sig ∷ sigs) names = (others_differ program f.name fs sigs names.0, names_differ program fs sigs names.1)

-- ---- main

named_at : (fs : List core.Fun) (n : ℕ) (f : core.Fun) → slice_get fs n ≡ Some f → IsNamed f.name fs
named_at [] n f e = absurd (none-some f e)
named_at (g ∷ fs) zero f e = inl (ap (λ (x : core.Fun). x.name) (sym (same_Some g f e)))
named_at (g ∷ fs) (suc n) f e = inr (named_at fs n f e)

unnamed : (name other : List ℕ) → (name ≡ other → ⊥) → bytes_eq name other ≡ false
unnamed name other differ = by_test (bytes_eq name other) refl
  where
    by_test : (t : Truth) → bytes_eq name other ≡ t → t ≡ false
    by_test true e = absurd (differ ((bytes_eq-Decides name other).0 e))
    by_test false e = refl

pub main_there : (program : core.Program) (fs : List core.Fun) (sigs : List Signature) (n : ℕ) (f : core.Fun) → AllZip IsSignatureOf fs sigs → HaveNames fs → slice_get fs n ≡ Some f
    → f.name ≡ codes "main" → main_number (functions_of program fs sigs) ≡ Some n
unfolding functions_of main_number
main_there program [] sigs n f all names there is = absurd (none-some f there)
main_there program (g ∷ fs) [] n f all names there is = absurd all
main_there program (g ∷ fs) (sig ∷ sigs) zero f all names there is =
    let same : g.name ≡ codes "main" = ap (λ (x : core.Fun). x.name) (same_Some g f there) ∙ is in
    ap (λ b. if b then Some 0 else option_map suc (main_number (functions_of program fs sigs))) ((bytes_eq-Decides g.name (codes "main")).1 same)
main_there program (g ∷ fs) (sig ∷ sigs) (suc n) f all names there is =
    let later = main_there program fs sigs n f all.1 names.1 there is in
    let other : bytes_eq g.name (codes "main") ≡ false =
    unnamed g.name (codes "main") (λ e. names.0 (subst (λ x. IsNamed x fs) (is ∙ sym e) (named_at fs n f there))) in
    ap (λ b. if b then Some 0 else option_map suc (main_number (functions_of program fs sigs))) other ∙ ap (λ o. option_map suc o) later

argument_kind : (t : CoreTy) (u : Ty) → IsArgument (kind_of t) → IsTypeOf t u → is_argument_kind u ≡ true
unfolding type_of
argument_kind (core_ty.Int form) u is e = (let a = then_ok (form_of form) _ u e in subst (λ x. is_argument_kind x ≡ true) (ok_same _ u a.second) refl)
argument_kind core_ty.Bool u is e = subst (λ x. is_argument_kind x ≡ true) (ok_same _ u e) refl
argument_kind (core_ty.Array element form) u is e =
    (let a = then_ok (form_of form) _ u e in subst (λ x. is_argument_kind x ≡ true) (ok_same _ u a.second) (let t : (element == 0) ≡ true = grind (arith, nat_tests) in t))
argument_kind (core_ty.Named number) u is e = absurd is

arguments_kind : (ts : List CoreTy) (us : List Ty) → AllByRecursion (λ param. IsArgument (kind_of param)) ts → AllZip IsTypeOf ts us → list_all is_argument_kind us ≡ true
arguments_kind [] [] is all = refl
arguments_kind [] (u ∷ us) is all = absurd all
arguments_kind (t ∷ ts) [] is all = absurd all
arguments_kind (t ∷ ts) (u ∷ us) is all = and_from _ _ (argument_kind t u is.0 all.0) (arguments_kind ts us is.1 all.1)

answer_kind : (t : CoreTy) (u : Ty) → kind_of t ≡ kind.Int → IsTypeOf t u → is_answer_kind u ≡ true
unfolding type_of
answer_kind (core_ty.Int form) u is e = (let a = then_ok (form_of form) _ u e in subst (λ x. is_answer_kind x ≡ true) (ok_same _ u a.second) refl)
answer_kind core_ty.Bool u is e = absurd (let bad : ⊥ = cc in bad)
answer_kind (core_ty.Array element form) u is e = absurd (let bad : ⊥ = cc in bad)
answer_kind (core_ty.Named number) u is e = absurd (let bad : ⊥ = cc in bad)

gives_number : (b : Truth) (k : Kind) → cond b k kind.Unit ≡ kind.Int → k ≡ kind.Int
gives_number true k e = e
gives_number false k e = absurd (let bad : ⊥ = cc in bad)

pub main_kinds : (f : core.Fun) (sig : Signature) → IsSignatureOf f sig → AllByRecursion (λ param. IsArgument (kind_of param)) f.params → result_kind f ≡ kind.Int → IsMain sig
main_kinds f sig of params result = record { kinds = and_from _ _ (arguments_kind f.params sig.params params of.params) (answer_kind f.result sig.result (gives_number _ (kind_of f.result) result) of.result) }

-- the function at a number, with its signature
pub record IsFunctionAt (program : core.Program) (fs : List core.Fun) (n : ℕ) (fun : LowFun) : Type 0 where
  pub f : core.Fun
  pub sig : Signature
  pub there : slice_get fs n ≡ Some f
  pub of : IsSignatureOf f sig
  pub is : function_of program f sig ≡ fun

pub function_at : (program : core.Program) (fs : List core.Fun) (sigs : List Signature) (n : ℕ) (fun : LowFun) → AllZip IsSignatureOf fs sigs → slice_get (functions_of program fs sigs) n ≡ Some fun
    → IsFunctionAt program fs n fun
unfolding functions_of
function_at program [] sigs n fun all e = absurd (none-some fun e)
function_at program (f ∷ fs) [] n fun all e = absurd all
function_at program (f ∷ fs) (sig ∷ sigs) zero fun all e = record { f = f; sig = sig; there = refl; of = all.0; is = same_Some _ fun e }
function_at program (f ∷ fs) (sig ∷ sigs) (suc n) fun all e =
    (let r = function_at program fs sigs n fun all.1 e in record { f = r.f; sig = r.sig; there = r.there; of = r.of; is = r.is })
