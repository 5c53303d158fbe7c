-- Closed types and signatures that elaboration makes are those of the core's declarations, one by one.
use Rattle.std.proofs.Common.{◌≡◌, inl, inr, ℕ, zero, suc, ◌+◌, ◌<◌, ◌≤◌, pos, Bool as Truth, true, false, cond, ◌||◌, List, [], ◌∷◌, ◌++◌, length, map, Result, Ok, Err, nat_lt, refl, sym, ap, subst, ◌∙◌, arith, append_assoc, append-nil}
use Rattle.std.specs.List.{AllZip, list_any}
use Rattle.std.proofs.lemmas.Bool.Decides.{nat_tests}
use Rattle.std.proofs.lemmas.Bool.{and_from}
use Rattle.xan_lin.specs.Linear.{Linear, sized, variable_form}
use Rattle.xan_lin.specs.Same.{same_form}
use Rattle.xan_lin.specs.declared.term.LimitKind.{LimitKind}
use Rattle.xan_lin.specs.declared.term.LimitKind.TheVariants as limit
use Rattle.xan_lin.specs.declared.term.TooLarge.{TooLarge}
use Rattle.xan_lin.proofs.EqualForms.{Decides-same_form}
use Rattle.xan_lin.proofs.FormSizes.{sized-parts}
use Rattle.state_types.specs.Matching.{is_alone}
use Rattle.state_types.specs.Types.{index_of}
use Rattle.state_types.specs.declared.closed.Packed.{Packed}
use Rattle.state_types.specs.declared.closed.Signature.{Signature}
use Rattle.state_types.specs.declared.types.Ty.{Ty}
use Rattle.state_types.proofs.Thens.{then_ok, ok_same}
use Rattle.xanadu_tree.specs.declared.linear.Linear.{Linear as Exact}
use Rattle.xanadu_tree.specs.declared.types.CoreTy.{CoreTy}
use Rattle.xanadu_tree.specs.declared.types.CoreTy.TheVariants as core_ty
use Rattle.xanadu_tree.specs.declared.types.Packing.{Packing}
use Rattle.xanadu_tree.specs.IndexRules.{Tells, SomeTells, variable_form as core_variable}
use Rattle.xanadu_tree.specs.Plain as core
use Rattle.typed_core.specs.Forms.{term_of, form_of, type_of, forms_from, types_from}
use Rattle.typed_core.specs.Headers.{closed_type, closed_types, signature, signatures}
use Rattle.typed_core.specs.Limits.{Walk, Past, most, within, needed, held}
use Rattle.typed_core.specs.Strays.{form_rises, type_rises, is_closed}
use Rattle.dtal_code.specs.Declarations.{are_alone}

-- ---- answers

needed_is : {A : Type 0} (r : Result A TooLarge) (x : A) → needed r ≡ Ok x → r ≡ Ok x
needed_is (Ok y) x e = ap Ok (ok_same y x e)
needed_is (Err why) x e = absurd (let bad : ⊥ = cc in bad)

upto_by : (b : Truth) (kind : LimitKind) (most count : ℕ) (u : Unit {0}) → nat_lt most count ≡ b → (let r : Walk (Unit {0}) = cond b (Err (Past kind)) (Ok tt) in r) ≡ Ok u → count ≤ most
upto_by true kind most count u e f = absurd (let bad : ⊥ = cc in bad)
upto_by false kind most count u e f = grind (arith, nat_tests)

pub upto : (kind : LimitKind) (count : ℕ) (u : Unit {0}) → within kind count ≡ Ok u → count ≤ most kind
upto kind count u e = upto_by (nat_lt (most kind) count) kind (most kind) count u refl e

-- ---- lists that are made one by one

-- behind those made before, one for each
pub record AreMade {A B : Type 0} (R : A → B → Type 0) (xs : List A) (made all : List B) : Type 0 where
  pub rest : List B
  pub is : made ++ rest ≡ all
  pub each : AllZip R xs rest

none_made : {A B : Type 0} (R : A → B → Type 0) (made all : List B) → made ≡ all → AreMade R [] made all
none_made R made all e = record { rest = []; is = append-nil made ∙ e; each = tt }

one_made : {A B : Type 0} (R : A → B → Type 0) (x : A) (y : B) (xs : List A) (made all : List B) → R x y → AreMade R xs (made ++ y ∷ []) all → AreMade R (x ∷ xs) made all
one_made R x y xs made all r m = record { rest = y ∷ m.rest; is = sym (append_assoc made (y ∷ []) m.rest) ∙ m.is; each = (r, m.each) }

pub as_long : {A B : Type 0} (R : A → B → Type 0) (xs : List A) (ys : List B) → AllZip R xs ys → length ys ≡ length xs
as_long R [] [] all = refl
as_long R [] (y ∷ ys) all = absurd all
as_long R (x ∷ xs) [] all = absurd all
as_long R (x ∷ xs) (y ∷ ys) all = ap suc (as_long R xs ys all.1)

abbrev pub IsFormOf : Exact → Linear → Type 0
IsFormOf form made = form_of form ≡ Ok made

abbrev pub IsTypeOf : CoreTy → Ty → Type 0
IsTypeOf t made = type_of t ≡ Ok made

pub forms_made : (forms : List Exact) (made all : List Linear) → forms_from forms made ≡ Ok all → AreMade IsFormOf forms made all
unfolding forms_from
forms_made [] made all e = none_made IsFormOf made all (ok_same made all e)
forms_made (form ∷ forms) made all e =
    let a = then_ok (held (form_rises form)) _ all e in
    let b = then_ok (needed (form_of form)) _ all a.second in
    one_made IsFormOf form b.value forms made all (needed_is (form_of form) b.value b.first) (forms_made forms (made ++ b.value ∷ []) all b.second)

pub types_made : (ts : List CoreTy) (made all : List Ty) → types_from ts made ≡ Ok all → AreMade IsTypeOf ts made all
unfolding types_from
types_made [] made all e = none_made IsTypeOf made all (ok_same made all e)
types_made (t ∷ ts) made all e =
    let a = then_ok (held (type_rises t)) _ all e in
    let b = then_ok (needed (type_of t)) _ all a.second in
    one_made IsTypeOf t b.value ts made all (needed_is (type_of t) b.value b.first) (types_made ts (made ++ b.value ∷ []) all b.second)

-- ---- a closed type

pub record IsPackedOf (packing : Packing) (packed : Packed) : Type 0 where
  pub vars : packed.vars ≡ packing.quant.count
  pub tuple : packed.tuple ≡ packing.tuple
  pub rows : AllZip IsFormOf packing.quant.rows packed.rows
  pub parts : AllZip IsTypeOf packing.parts packed.parts
  pub few_vars : packed.vars ≤ 1024
  pub few_rows : length packed.rows ≤ 512

pub packed_of : (packing : Packing) (packed : Packed) → closed_type packing ≡ Ok packed → IsPackedOf packing packed
unfolding closed_type
packed_of packing packed e =
    let a = then_ok (forms_from packing.quant.rows []) _ packed e in
    let b = then_ok (types_from packing.parts []) _ packed a.second in
    let c = then_ok (within limit.Variables packing.quant.count) _ packed b.second in
    let d = then_ok (within limit.Rows (length packing.quant.rows)) _ packed c.second in
    let made : Packed = record { vars = packing.quant.count; rows = a.value; parts = b.value; tuple = packing.tuple } in
    let f = then_ok (held (is_closed made)) _ packed d.second in
    let same : made ≡ packed = ok_same made packed f.second in
    let rows = forms_made packing.quant.rows [] a.value a.first in
    let parts = types_made packing.parts [] b.value b.first in
    let many = upto limit.Variables packing.quant.count c.value c.first in
    let listed = upto limit.Rows (length packing.quant.rows) d.value d.first in
    let as_many = as_long IsFormOf packing.quant.rows rows.rest rows.each ∙ refl in
    let all_rows : length a.value ≡ length packing.quant.rows = ap length (sym rows.is) ∙ as_many in
    subst (λ (p : Packed). IsPackedOf packing p) same (record {
      vars = refl;
      tuple = refl;
      rows = subst (λ l. AllZip IsFormOf packing.quant.rows l) rows.is rows.each;
      parts = subst (λ l. AllZip IsTypeOf packing.parts l) parts.is parts.each;
      few_vars = many;
      few_rows = omega (arith, listed, all_rows);
    })

pub packings_made : (packings : List Packing) (made all : List Packed) → closed_types packings made ≡ Ok all → AreMade IsPackedOf packings made all
unfolding closed_types
packings_made [] made all e = none_made IsPackedOf made all (ok_same made all e)
packings_made (packing ∷ packings) made all e =
    let a = then_ok (closed_type packing) _ all e in
    one_made IsPackedOf packing a.value packings made all (packed_of packing a.value a.first) (packings_made packings (made ++ a.value ∷ []) all a.second)

-- ---- a signature

pub record IsSignatureOf (f : core.Fun) (sig : Signature) : Type 0 where
  pub vars : sig.vars ≡ f.quant.count
  pub result_vars : sig.result_vars ≡ f.result_quant.count
  pub rows : AllZip IsFormOf f.quant.rows sig.rows
  pub result_rows : AllZip IsFormOf f.result_quant.rows sig.result_rows
  pub params : AllZip IsTypeOf f.params sig.params
  pub result : IsTypeOf f.result sig.result
  pub few_vars : sig.vars + sig.result_vars ≤ 1024
  pub few_rows : length sig.rows ≤ 512
  pub few_result_rows : length sig.result_rows ≤ 512

pub signature_of : (f : core.Fun) (sig : Signature) → signature f ≡ Ok sig → IsSignatureOf f sig
unfolding signature
signature_of f sig e =
    let a = then_ok (forms_from f.quant.rows []) _ sig e in
    let b = then_ok (types_from f.params []) _ sig a.second in
    let c = then_ok (forms_from f.result_quant.rows []) _ sig b.second in
    let d = then_ok (held (type_rises f.result)) _ sig c.second in
    let g = then_ok (needed (type_of f.result)) _ sig d.second in
    let h = then_ok (within limit.Variables (f.quant.count + f.result_quant.count)) _ sig g.second in
    let i = then_ok (within limit.Rows (length f.quant.rows)) _ sig h.second in
    let j = then_ok (within limit.Rows (length f.result_quant.rows)) _ sig i.second in
    let made : Signature = record { vars = f.quant.count; rows = a.value; params = b.value; result_vars = f.result_quant.count; result_rows = c.value; result = g.value } in
    let same : made ≡ sig = ok_same made sig j.second in
    let rows = forms_made f.quant.rows [] a.value a.first in
    let params = types_made f.params [] b.value b.first in
    let result_rows = forms_made f.result_quant.rows [] c.value c.first in
    let many = upto limit.Variables (f.quant.count + f.result_quant.count) h.value h.first in
    let listed = upto limit.Rows (length f.quant.rows) i.value i.first in
    let result_listed = upto limit.Rows (length f.result_quant.rows) j.value j.first in
    let all_rows : length a.value ≡ length f.quant.rows = ap length (sym rows.is) ∙ as_long IsFormOf f.quant.rows rows.rest rows.each in
    let all_result_rows : length c.value ≡ length f.result_quant.rows = ap length (sym result_rows.is) ∙ as_long IsFormOf f.result_quant.rows result_rows.rest result_rows.each in
    subst (λ (s : Signature). IsSignatureOf f s) same (record {
      vars = refl;
      result_vars = refl;
      rows = subst (λ l. AllZip IsFormOf f.quant.rows l) rows.is rows.each;
      result_rows = subst (λ l. AllZip IsFormOf f.result_quant.rows l) result_rows.is result_rows.each;
      params = subst (λ l. AllZip IsTypeOf f.params l) params.is params.each;
      result = needed_is (type_of f.result) g.value g.first;
      few_vars = many;
      few_rows = omega (arith, listed, all_rows);
      few_result_rows = omega (arith, result_listed, all_result_rows);
    })

pub signatures_made : (fs : List core.Fun) (made all : List Signature) → signatures fs made ≡ Ok all → AreMade IsSignatureOf fs made all
unfolding signatures
signatures_made [] made all e = none_made IsSignatureOf made all (ok_same made all e)
signatures_made (f ∷ fs) made all e =
    let a = then_ok (signature f) _ all e in
    one_made IsSignatureOf f a.value fs made all (signature_of f a.value a.first) (signatures_made fs (made ++ a.value ∷ []) all a.second)

-- ---- variables that stand alone

alone_form : (variable : ℕ) (form : Exact) (made : Linear) → form ≡ core_variable variable → form_of form ≡ Ok made → same_form made (variable_form variable) ≡ true
alone_form variable form made is e =
    let terms : map term_of form.terms ≡ map term_of (core_variable variable).terms = ap (λ (f : Exact). map term_of f.terms) is in
    let constant : form.constant ≡ pos 0 = ap (λ (f : Exact). f.constant) is in
    let same : variable_form variable ≡ made =
    sized-parts (variable_form variable).terms (pos 0) made (ap (λ c. sized (map term_of (core_variable variable).terms) c) (sym constant) ∙ ap (λ t. sized t form.constant) (sym terms) ∙ e) in
    (Decides-same_form made (variable_form variable)).1 (sym same)

tells_alone : (variable : ℕ) (t : CoreTy) (made : Ty) → Tells variable t → IsTypeOf t made → is_alone variable (index_of made) ≡ true
unfolding type_of
tells_alone variable (core_ty.Int form) made tells e =
    let a = then_ok (form_of form) _ made e in
    subst (λ u. is_alone variable (index_of u) ≡ true) (ok_same _ made a.second) (alone_form variable form a.value tells a.first)
tells_alone variable core_ty.Bool made tells e = absurd tells
tells_alone variable (core_ty.Array element form) made tells e =
    let a = then_ok (form_of form) _ made e in
    subst (λ u. is_alone variable (index_of u) ≡ true) (ok_same _ made a.second) (alone_form variable form a.value tells a.first)
tells_alone variable (core_ty.Named number) made tells e = absurd tells

some_alone : (variable : ℕ) (ts : List CoreTy) (made : List Ty) → SomeTells variable ts → AllZip IsTypeOf ts made → list_any (λ t. is_alone variable (index_of t)) made ≡ true
some_alone variable [] made tells all = absurd tells
some_alone variable (t ∷ ts) [] tells all = absurd all
some_alone variable (t ∷ ts) (u ∷ made) (inl tells) all = ap (λ b. b || list_any (λ t. is_alone variable (index_of t)) made) (tells_alone variable t u tells all.0)
some_alone variable (t ∷ ts) (u ∷ made) (inr tells) all = or_true (is_alone variable (index_of u)) _ (some_alone variable ts made tells all.1)
  where
    or_true : (a b : Truth) → b ≡ true → (a || b) ≡ true
    or_true true b e = refl
    or_true false b e = e

pub alone_all : (first count : ℕ) (ts : List CoreTy) (made : List Ty) → ((variable : ℕ) → first ≤ variable → variable < first + count → SomeTells variable ts) → AllZip IsTypeOf ts made
    → are_alone first count made ≡ true
unfolding are_alone
alone_all first zero ts made told all = refl
alone_all first (suc count) ts made told all =
    and_from _ _ (some_alone first ts made (told first (omega arith) (omega arith)) all)
    (alone_all (suc first) count ts made (λ variable low high. told variable (omega (arith, low)) (omega (arith, high))) all)
