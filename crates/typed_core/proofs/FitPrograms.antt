-- A core that keeps the rules of a core is elaborated, or stopped by a limit.
use Rattle.std.proofs.Common.{◌≡◌, ◌≢◌, ℕ, zero, suc, ◌+◌, List, [], ◌∷◌, ◌++◌, map, length, take, Bool as Truth, true, false, cond, Option, Some, None, Ok, Err, refl, sym, ap, subst, ◌∙◌, inl, inr, arith}
use Rattle.std.specs.Prelude.{slice_get}
use Rattle.std.specs.Option.{option_and_then}
use Rattle.std.specs.List.{AllByRecursion, enumerate_from, list_all, range_with_len}
use Rattle.std.proofs.lemmas.Option.{same_Some}
use Rattle.xan_lin.specs.Linear.{Linear}
use Rattle.xan_lin.specs.declared.term.LimitKind.TheVariants as limit
use Rattle.state_types.specs.Answers.{◌>>=◌}
use Rattle.state_types.specs.Tables.{int_cell, bool_cell}
use Rattle.state_types.specs.Unpacking.{with_rows}
use Rattle.state_types.specs.declared.closed.Packed.{Packed}
use Rattle.state_types.specs.declared.closed.Signature.{Signature}
use Rattle.state_types.specs.declared.types.Ty.{Ty}
use Rattle.state_types.specs.declared.types.Ty.TheVariants as ty
use Rattle.operation_rules.specs.Faults.{Ruling, or_fault}
use Rattle.operation_rules.specs.Rules.{only_tuple, tuple_at, cell_with, cell_at}
use Rattle.operation_rules.specs.declared.error.Fault.TheVariants.{NoType}
use Rattle.xanadu_tree.specs.declared.linear.Linear.{Linear as Exact}
use Rattle.xanadu_tree.specs.declared.types.CoreTy.{CoreTy}
use Rattle.xanadu_tree.specs.declared.types.Kind.{Kind}
use Rattle.xanadu_tree.specs.declared.types.Kind.TheVariants as kind
use Rattle.xanadu_tree.specs.declared.types.Packing.{Packing}
use Rattle.xanadu_tree.specs.KindRules.{kind_of, if_tuple, first_kind, held_kind, cell_kind, tuple_type, gives_value, Header, header, IsAmong}
use Rattle.xanadu_tree.specs.Shaped.{Shaped, HasParts, IsPacking, IsFunction, setting}
use Rattle.xanadu_tree.specs.Shaped as shaped
use Rattle.xanadu_tree.specs.Plain as core
use Rattle.typed_core.specs.declared.goal.GoalAt.{GoalAt}
use Rattle.typed_core.specs.declared.note.Note.{Note}
use Rattle.typed_core.specs.Forms.{form_of, type_of, forms_from, types_from}
use Rattle.typed_core.specs.Goals.{body_start, function, functions, elaborated}
use Rattle.typed_core.specs.Headers.{few_parts, few_parameters, few_declarations, closed_type, closed_types, signature, signatures}
use Rattle.typed_core.specs.Limits.{Past, Misfit, Stray, Walk, within, needed, in_context, held}
use Rattle.typed_core.specs.Places.{places_of}
use Rattle.typed_core.specs.States.{Site, there}
use Rattle.typed_core.specs.Statements.{block}
use Rattle.typed_core.specs.Strays.{form_rises, type_rises, form_below, is_closed}
use Rattle.typed_core.proofs.LimitedAnswers.{Anything, Fits, Behind, then_answers, weaker, any_answer, needed_fits, context_fits, there_fits, within_fits, held_fits, behind_none, behind_one}
use Rattle.typed_core.proofs.TypeKinds.{ty_kind, some_kind, HaveKindsOf, IsOfKind, type_kind}
use Rattle.typed_core.proofs.KnownTypes.{IsListed, IsEntry, Knows, all_weaker}
use Rattle.typed_core.proofs.FitStates.{rows_full}
use Rattle.typed_core.proofs.FitRules.{IsCell, IsTuple}
use Rattle.typed_core.proofs.FitOperands.{IsCallee, Suits}
use Rattle.typed_core.proofs.FitStatements.{KnowsAt, block_fits}

-- ---- how many there are

few_parts_fit : (packings : List Packing) → Fits Anything (few_parts packings)
unfolding few_parts
few_parts_fit [] = record { is = tt }
few_parts_fit (p ∷ ps) = then_answers (within limit.Parameters (length p.parts)) _ (within_fits limit.Parameters (length p.parts)) (λ few u. few_parts_fit ps)

few_parameters_fit : (fs : List core.Fun) → Fits Anything (few_parameters fs)
unfolding few_parameters
few_parameters_fit [] = record { is = tt }
few_parameters_fit (f ∷ fs) = then_answers (within limit.Parameters (length f.params)) _ (within_fits limit.Parameters (length f.params)) (λ few u. few_parameters_fit fs)

few_fit : (program : core.Program) → Fits Anything (few_declarations program)
unfolding few_declarations
few_fit program =
    then_answers (within limit.Functions (length program.funs)) _ (within_fits limit.Functions (length program.funs))
    (λ a u. then_answers (within limit.Types (length program.types)) _ (within_fits limit.Types (length program.types))
    (λ b v. then_answers (few_parts program.types) _ (few_parts_fit program.types) (λ c w. few_parameters_fit program.funs)))

-- ---- forms and types in order

forms_fit : (forms : List Exact) (made : List Linear) → Fits Anything (forms_from forms made)
unfolding forms_from
forms_fit [] made = record { is = tt }
forms_fit (form ∷ forms) made =
    then_answers (held (form_rises form)) _ (held_fits (form_rises form))
    (λ rises v. then_answers (needed (form_of form)) _ (needed_fits (form_of form) (any_answer (form_of form))) (λ one u. forms_fit forms (made ++ one ∷ [])))

HaveKindsLike : List CoreTy → List Ty → Type 0
HaveKindsLike cs ts = HaveKindsOf (map kind_of cs) ts

types_fit_from : (cs : List CoreTy) (made : List Ty) → Fits (Behind made (HaveKindsLike cs)) (types_from cs made)
unfolding types_from HaveKindsLike
types_fit_from [] made = record { is = behind_none made (HaveKindsLike []) tt }
types_fit_from (c ∷ cs) made =
    then_answers (held (type_rises c)) _ (held_fits (type_rises c))
    (λ rises u. then_answers (needed (type_of c)) _ (needed_fits (type_of c) (type_kind c))
    (λ one e. weaker (types_from cs (made ++ one ∷ [])) (λ all b. behind_one made one (HaveKindsLike cs) (HaveKindsLike (c ∷ cs)) all (λ rest h. (e, h)) b) (types_fit_from cs (made ++ one ∷ []))))

types_fit : (cs : List CoreTy) → Fits (HaveKindsOf (map kind_of cs)) (types_from cs [])
unfolding HaveKindsLike
types_fit cs = weaker (types_from cs []) (λ all b. subst (HaveKindsOf (map kind_of cs)) (sym b.is) b.holds) (types_fit_from cs [])

-- ---- closed types

pub record IsClosedOf (packing : Packing) (packed : Packed) : Type 0 where
  pub tuple : packed.tuple ≡ packing.tuple
  pub kinds : HaveKindsOf (map kind_of packing.parts) packed.parts

pub AreClosed : List Packing → List Packed → Type 0
AreClosed [] [] = Unit {0}
AreClosed [] (c ∷ cs) = ⊥
AreClosed (p ∷ ps) [] = ⊥
AreClosed (p ∷ ps) (c ∷ cs) = IsClosedOf p c × AreClosed ps cs

closed_fits : (p : Packing) → Fits (IsClosedOf p) (closed_type p)
unfolding closed_type
closed_fits p =
    then_answers (forms_from p.quant.rows []) _ (forms_fit p.quant.rows [])
    (λ rows u. then_answers (types_from p.parts []) _ (types_fit p.parts)
    (λ parts h. then_answers (within limit.Variables p.quant.count) _ (within_fits limit.Variables p.quant.count)
    (λ few v. then_answers (within limit.Rows (length p.quant.rows)) _ (within_fits limit.Rows (length p.quant.rows))
    (λ less w. let made : Packed = record { vars = p.quant.count; rows = rows; parts = parts; tuple = p.tuple } in
    then_answers (held (is_closed made)) _ (held_fits (is_closed made)) (λ closed x. record { is = record { tuple = refl; kinds = h } })))))

pub closed_all : (ps : List Packing) (made : List Packed) → Fits (Behind made (AreClosed ps)) (closed_types ps made)
unfolding closed_types AreClosed
closed_all [] made = record { is = behind_none made (AreClosed []) tt }
closed_all (p ∷ ps) made =
    then_answers (closed_type p) _ (closed_fits p)
    (λ one e. weaker (closed_types ps (made ++ one ∷ [])) (λ all b. behind_one made one (AreClosed ps) (AreClosed (p ∷ ps)) all (λ rest h. (e, h)) b) (closed_all ps (made ++ one ∷ [])))

record Closed (packing : Packing) (table : List Packed) (number : ℕ) : Type 0 where
  packed : Packed
  at : slice_get table number ≡ Some packed
  is : IsClosedOf packing packed

closed_at : (ps : List Packing) (cs : List Packed) (number : ℕ) (p : Packing) → AreClosed ps cs → slice_get ps number ≡ Some p → Closed p cs number
unfolding AreClosed
closed_at [] cs number p h e = absurd (cc)
closed_at (q ∷ qs) [] number p h e = absurd h
closed_at (q ∷ qs) (c ∷ cs) zero p h e = record { packed = c; at = refl; is = subst (λ r. IsClosedOf r c) (same_Some q p e) h.0 }
closed_at (q ∷ qs) (c ∷ cs) (suc number) p h e =
    let it = closed_at qs cs number p h.1 e in
    record { packed = it.packed; at = it.at; is = it.is }

-- ---- cells

record IsFound (table : List Packed) (element : ℕ) (held : Kind) (packed : Packed) : Type 0 where
  at : slice_get table element ≡ Some packed
  kinds : HaveKindsOf (held ∷ []) (cell_with element packed).parts

cell_of : (table : List Packed) (element : ℕ) (held : Kind) (packed : Packed) → IsFound table element held packed → IsCell table element held
unfolding cell_at
cell_of table element held packed f = record {
  packed = cell_with element packed;
  at = ap (λ o. or_fault NoType o >>= (λ p. let r : Ruling Packed = Ok (cell_with element p) in r)) f.at;
  kinds = f.kinds;
}

-- one part at most, where it is no tuple
one_part : (parts : List CoreTy) (ts : List Ty) (held : Kind) → HasParts false parts → first_kind parts ≡ Some held → HaveKindsOf (map kind_of parts) ts → HaveKindsOf (held ∷ []) ts
one_part [] ts held many e h = absurd many
one_part (c ∷ d ∷ ds) ts held many e h = absurd (cc)
one_part (c ∷ []) [] held many e h = absurd h
one_part (c ∷ []) (t ∷ ts) held many e h = (sym (same_Some (kind_of c) held e) ∙ h.0, h.1)

held_by : (b : Truth) (element : ℕ) (held : Kind) (parts : List CoreTy) (packed : Packed) → packed.tuple ≡ b → HasParts b parts
    → cond b (Some (kind.Named element)) (first_kind parts) ≡ Some held → HaveKindsOf (map kind_of parts) packed.parts
    → HaveKindsOf (held ∷ []) (cell_with element packed).parts
held_by true element held parts packed same many e h =
    subst (λ b. HaveKindsOf (held ∷ []) (cond b (record { vars = 0; rows = []; parts = ty.Named element ∷ []; tuple = false }) packed).parts) (sym same)
    (sym (same_Some (kind.Named element) held e), tt)
held_by false element held parts packed same many e h =
    subst (λ b. HaveKindsOf (held ∷ []) (cond b (record { vars = 0; rows = []; parts = ty.Named element ∷ []; tuple = false }) packed).parts) (sym same)
    (one_part parts packed.parts held many e h)

tuple_by : (b : Truth) (packed : Packed) → packed.tuple ≡ true → packed.tuple ≡ b → cond b (let r : Ruling Packed = Ok packed in r) (Err NoType) ≡ Ok packed
tuple_by true packed t same = refl
tuple_by false packed t same = absurd (cc)

record IsPackedTuple (packing made : Packing) : Type 0 where
  same : packing ≡ made
  tuple : packing.tuple ≡ true

if_tuple_by : (b : Truth) (packing made : Packing) → packing.tuple ≡ b → cond b (let o : Option Packing = Some packing in o) None ≡ Some made → IsPackedTuple packing made
if_tuple_by true packing made t h = record { same = same_Some packing made h; tuple = t }
if_tuple_by false packing made t h = absurd (cc)

if_tuple_is : (packing made : Packing) → if_tuple packing ≡ Some made → IsPackedTuple packing made
if_tuple_is packing made e = if_tuple_by packing.tuple packing made refl e

tuple_of : (table : List Packed) (number : ℕ) (packed : Packed) (parts : List Kind) → slice_get table number ≡ Some packed → packed.tuple ≡ true → HaveKindsOf parts packed.parts
    → IsTuple table number parts
unfolding tuple_at
tuple_of table number packed parts at tuple kinds = record {
  packed = packed;
  at = ap (λ o. or_fault NoType o >>= (λ p. only_tuple p)) at ∙ tuple_by packed.tuple packed tuple refl;
  kinds = kinds;
}

-- ---- the table

pub all_at : {A : Type 0} (P : A → Type 0) (xs : List A) (n : ℕ) (x : A) → AllByRecursion P xs → slice_get xs n ≡ Some x → P x
all_at P [] n x h e = absurd (cc)
all_at P (y ∷ ys) zero x h e = subst P (same_Some y x e) h.0
all_at P (y ∷ ys) (suc n) x h e = all_at P ys n x h.1 e

abbrev table_with : List Packed → List Packed
table_with cs = int_cell ∷ bool_cell ∷ cs

module _ (types : List Packing) (packings : AllByRecursion (IsPacking types) types) (cs : List Packed) (closed : AreClosed types cs) where
  declared_cell : (number : ℕ) (held : Kind) (o : Option Packing) → slice_get types number ≡ o → option_and_then (held_kind (suc (suc number))) o ≡ Some held
      → IsCell (table_with cs) (suc (suc number)) held
  declared_cell number held None at e = absurd (cc)
  declared_cell number held (Some p) at e =
      let it = closed_at types cs number p closed at in
      let many = (all_at (IsPacking types) types number p packings at).many in
      cell_of (table_with cs) (suc (suc number)) held it.packed
      (record { at = it.at; kinds = held_by p.tuple (suc (suc number)) held p.parts it.packed it.is.tuple many e it.is.kinds })

  cells_are : (element : ℕ) (held : Kind) → cell_kind types element ≡ Some held → IsCell (table_with cs) element held
  cells_are zero held e = cell_of (table_with cs) 0 held int_cell (record { at = refl; kinds = (sym (same_Some kind.Int held e), tt) })
  cells_are (suc zero) held e = cell_of (table_with cs) 1 held bool_cell (record { at = refl; kinds = (sym (same_Some kind.Bool held e), tt) })
  cells_are (suc (suc number)) held e = declared_cell number held (slice_get types number) refl e

  declared_tuple : (number : ℕ) (made : Packing) (o : Option Packing) → slice_get types number ≡ o → option_and_then if_tuple o ≡ Some made
      → IsTuple (table_with cs) (suc (suc number)) (map kind_of made.parts)
  declared_tuple number made None at e = absurd (cc)
  declared_tuple number made (Some p) at e =
      let it = closed_at types cs number p closed at in
      let t = if_tuple_is p made e in
      tuple_of (table_with cs) (suc (suc number)) it.packed (map kind_of made.parts) it.at (it.is.tuple ∙ t.tuple)
      (subst (λ q. HaveKindsOf (map kind_of q.parts) it.packed.parts) t.same it.is.kinds)

  tuples_are : (number : ℕ) (made : Packing) → tuple_type types number ≡ Some made → IsTuple (table_with cs) number (map kind_of made.parts)
  tuples_are zero made e = absurd (cc)
  tuples_are (suc zero) made e = absurd (cc)
  tuples_are (suc (suc number)) made e = declared_tuple number made (slice_get types number) refl e

-- ---- headers

pub record IsSignedOf (f : core.Fun) (sig : Signature) : Type 0 where
  pub params : HaveKindsOf (map kind_of f.params) sig.params
  pub result : kind_of f.result ≡ ty_kind sig.result

pub AreSigned : List core.Fun → List Signature → Type 0
AreSigned [] [] = Unit {0}
AreSigned [] (s ∷ ss) = ⊥
AreSigned (f ∷ fs) [] = ⊥
AreSigned (f ∷ fs) (s ∷ ss) = IsSignedOf f s × AreSigned fs ss

signature_fits : (f : core.Fun) → Fits (IsSignedOf f) (signature f)
unfolding signature
signature_fits f =
    then_answers (forms_from f.quant.rows []) _ (forms_fit f.quant.rows [])
    (λ rows a. then_answers (types_from f.params []) _ (types_fit f.params)
    (λ params h. then_answers (forms_from f.result_quant.rows []) _ (forms_fit f.result_quant.rows [])
    (λ result_rows b. then_answers (held (type_rises f.result)) _ (held_fits (type_rises f.result))
    (λ rises l. then_answers (needed (type_of f.result)) _ (needed_fits (type_of f.result) (type_kind f.result))
    (λ result e. then_answers (within limit.Variables (f.quant.count + f.result_quant.count)) _ (within_fits limit.Variables (f.quant.count + f.result_quant.count))
    (λ c d. then_answers (within limit.Rows (length f.quant.rows)) _ (within_fits limit.Rows (length f.quant.rows))
    (λ g i. then_answers (within limit.Rows (length f.result_quant.rows)) _ (within_fits limit.Rows (length f.result_quant.rows))
    (λ j k. record { is = record { params = h; result = e } }))))))))

pub signatures_fit : (fs : List core.Fun) (made : List Signature) → Fits (Behind made (AreSigned fs)) (signatures fs made)
unfolding signatures AreSigned
signatures_fit [] made = record { is = behind_none made (AreSigned []) tt }
signatures_fit (f ∷ fs) made =
    then_answers (signature f) _ (signature_fits f)
    (λ one e. weaker (signatures fs (made ++ one ∷ [])) (λ all b. behind_one made one (AreSigned fs) (AreSigned (f ∷ fs)) all (λ rest h. (e, h)) b) (signatures_fit fs (made ++ one ∷ [])))

pub record SignedAt (sigs : List Signature) (fun : ℕ) (f : core.Fun) : Type 0 where
  pub sig : Signature
  pub at : slice_get sigs fun ≡ Some sig
  pub is : IsSignedOf f sig

pub signed_at : (fs : List core.Fun) (sigs : List Signature) (fun : ℕ) (f : core.Fun) → AreSigned fs sigs → slice_get fs fun ≡ Some f → SignedAt sigs fun f
unfolding AreSigned
signed_at [] sigs fun f h e = absurd (cc)
signed_at (g ∷ gs) [] fun f h e = absurd h
signed_at (g ∷ gs) (s ∷ ss) zero f h e = record { sig = s; at = refl; is = subst (λ i. IsSignedOf i s) (same_Some g f e) h.0 }
signed_at (g ∷ gs) (s ∷ ss) (suc fun) f h e =
    let it = signed_at gs ss fun f h.1 e in
    record { sig = it.sig; at = it.at; is = it.is }

result_by : (b : Truth) (k : Kind) (t : Ty) → k ≡ ty_kind t → IsOfKind (cond b k kind.Unit) t
result_by true k t e = λ value. e
result_by false k t e = λ value. absurd value

callees_are : (fs : List core.Fun) (sigs : List Signature) (fun : ℕ) (h : Header) → AreSigned fs sigs → slice_get (map header fs) fun ≡ Some h → IsCallee sigs fun h
unfolding AreSigned
callees_are [] sigs fun h all e = absurd (cc)
callees_are (f ∷ fs) [] fun h all e = absurd all
callees_are (f ∷ fs) (s ∷ ss) zero h all e =
    subst (IsCallee (s ∷ ss) 0) (same_Some (header f) h e)
    (record { sig = s; at = refl; params = all.0.params; result = result_by (gives_value f.body) (kind_of f.result) s.result all.0.result })
callees_are (f ∷ fs) (s ∷ ss) (suc fun) h all e =
    let it = callees_are fs ss fun h all.1 e in
    record { sig = it.sig; at = it.at; params = it.params; result = it.result }

-- ---- where a body begins

AreFrom : List Kind → ℕ → List CoreTy → Type 0
AreFrom kinds low [] = Unit {0}
AreFrom kinds low (c ∷ cs) = (slice_get kinds low ≡ Some (kind_of c)) × AreFrom kinds (low + 1) cs

taken : (n : ℕ) (xs : List Kind) (i : ℕ) (y : Kind) → slice_get (take n xs) i ≡ Some y → slice_get xs i ≡ Some y
taken zero xs i y e = absurd (cc)
taken (suc n) [] i y e = absurd (cc)
taken (suc n) (x ∷ xs) zero y e = e
taken (suc n) (x ∷ xs) (suc i) y e = taken n xs i y e

are_from : (kinds : List Kind) (low : ℕ) (cs : List CoreTy) → ((i : ℕ) (y : Kind) → slice_get (map kind_of cs) i ≡ Some y → slice_get kinds (low + i) ≡ Some y) → AreFrom kinds low cs
unfolding AreFrom
are_from kinds low [] h = tt
are_from kinds low (c ∷ cs) h = (
  (let here : low + 0 ≡ low = omega arith in subst (λ n. slice_get kinds n ≡ Some (kind_of c)) here (h 0 (kind_of c) refl)),
  are_from kinds (low + 1) cs (λ i y e. (let later : low + suc i ≡ (low + 1) + i = omega arith in subst (λ n. slice_get kinds n ≡ Some y) later (h (suc i) y e))),
)

one_more : (low : ℕ) (t : Ty) (visible : List ℕ) (types : List (ℕ × Ty)) → ((x : ℕ) → IsAmong visible x → IsListed types x) → (x : ℕ) → IsAmong (low ∷ visible) x
    → IsListed ((low, t) ∷ types) x
one_more low t visible types there x (inl h) = inl h
one_more low t visible types there x (inr h) = inr (there x h)

start_knows : (kinds : List Kind) (low : ℕ) (cs : List CoreTy) (ts : List Ty) → AreFrom kinds low cs → HaveKindsOf (map kind_of cs) ts
    → Knows kinds (range_with_len low (length cs)) (enumerate_from low ts)
unfolding AreFrom
start_knows kinds low [] [] from have = record { there = λ x h. absurd h; agree = tt }
start_knows kinds low [] (t ∷ ts) from have = absurd have
start_knows kinds low (c ∷ cs) [] from have = absurd have
start_knows kinds low (c ∷ cs) (t ∷ ts) from have =
    let rest = start_knows kinds (low + 1) cs ts from.1 have.1 in
    let visible = range_with_len (low + 1) (length cs) in
    record {
      there = one_more low t visible (enumerate_from (low + 1) ts) rest.there;
      agree = (
        (inl refl, from.0 ∙ some_kind have.0),
        all_weaker (IsEntry kinds visible) (IsEntry kinds (low ∷ visible)) (λ e h. (inr h.0, h.1)) (enumerate_from (low + 1) ts) rest.agree,
      );
    }

-- ---- functions

module _ (types : List Packing) (headers : List Header) (f : core.Fun) (is : IsFunction types headers f) (sig : Signature) (signed : IsSignedOf f sig) where
  params_known : Knows f.kinds (range_with_len 0 (length f.params)) (enumerate_from 0 sig.params)
  params_known = start_knows f.kinds 0 f.params sig.params (are_from f.kinds 0 f.params (λ i y e.
      (let same : i ≡ 0 + i = omega arith in
      subst (λ n. slice_get f.kinds n ≡ Some y) same (taken (length f.params) f.kinds i y (subst (λ ks. slice_get ks i ≡ Some y) (sym is.param_kinds) e))))) signed.params

  pub start_fits : (goals : List GoalAt) (notes : List Note) → Fits (KnowsAt (setting types headers f) (shaped.body_start f)) (body_start sig goals notes)
  unfolding body_start
  start_fits goals notes =
      then_answers (within limit.Parameters (length sig.params)) _ (within_fits limit.Parameters (length sig.params))
      (λ few u. then_answers (held (list_all (form_below sig.vars) sig.rows)) _ (held_fits (list_all (form_below sig.vars) sig.rows))
      (λ named v. then_answers (in_context (with_rows (record { vars = sig.vars; rows = [] }) sig.rows)) _
      (context_fits (with_rows (record { vars = sig.vars; rows = [] }) sig.rows) (rows_full (record { vars = sig.vars; rows = [] }) sig.rows)) (λ ctx w. record { is = params_known })))

module _ (types : List Packing) (packings : AllByRecursion (IsPacking types) types) (cs : List Packed) (closed : AreClosed types cs) (funs : List core.Fun)
    (sigs : List Signature) (signed : AreSigned funs sigs) where
  pub suits_of : (fun : ℕ) (f : core.Fun) (own : Signature) → IsFunction types (map header funs) f → IsSignedOf f own
      → Suits (setting types (map header funs) f) (record { table = table_with cs; sigs = sigs; fun = fun; own = own })
  suits_of fun f own is own_signed = record {
    cells = cells_are types packings cs closed;
    tuples = tuples_are types packings cs closed;
    callees = λ n h e. callees_are funs sigs n h signed e;
    result = result_by (gives_value f.body) (kind_of f.result) own.result own_signed.result;
    unit = λ e. sym (ap kind_of (is.unit e).0) ∙ own_signed.result;
  }

  function_fits : (fun : ℕ) (f : core.Fun) (goals : List GoalAt) (notes : List Note) → IsFunction types (map header funs) f → SignedAt sigs fun f
      → Fits Anything (function (table_with cs) sigs fun f goals notes)
  unfolding function
  function_fits fun f goals notes is at =
      then_answers (there (slice_get sigs fun)) _ (there_fits {P = IsSignedOf f} (slice_get sigs fun) at.sig at.at at.is)
      (λ own own_signed. then_answers (within limit.Places (places_of f)) _ (within_fits limit.Places (places_of f))
      (λ few u. then_answers (body_start own goals notes) _ (start_fits types (map header funs) f is own own_signed goals notes)
      (λ start knows. let site : Site = record { table = table_with cs; sigs = sigs; fun = fun; own = own } in
      weaker (block site f.body start) (λ st k. tt)
      (block_fits (setting types (map header funs) f) site (suits_of fun f own is own_signed) f.body (shaped.body_start f) is.end start is.body knows))))

  functions_fit : (fs : List core.Fun) (fun : ℕ) (goals : List GoalAt) (notes : List Note) → AllByRecursion (IsFunction types (map header funs)) fs
      → ((i : ℕ) (f : core.Fun) → slice_get fs i ≡ Some f → SignedAt sigs (fun + i) f) → Fits Anything (functions (table_with cs) sigs fun fs goals notes)
  unfolding functions
  functions_fit [] fun goals notes all at = record { is = tt }
  functions_fit (f ∷ fs) fun goals notes all at =
      let here : fun + 0 ≡ fun = omega arith in
      then_answers (function (table_with cs) sigs fun f goals notes) _
      (function_fits fun f goals notes all.0 (subst (λ n. SignedAt sigs n f) here (at 0 f refl)))
      (λ done u. functions_fit fs (suc fun) done.goals done.notes all.1
      (λ i g e. (let later : fun + suc i ≡ suc fun + i = omega arith in subst (λ n. SignedAt sigs n g) later (at (suc i) g e))))

-- ---- programs

elaborated_fits : (program : core.Program) → Shaped program → Fits Anything (elaborated program)
unfolding elaborated
elaborated_fits program is =
    then_answers (few_declarations program) _ (few_fit program)
    (λ few u. then_answers (closed_types program.types (int_cell ∷ bool_cell ∷ [])) _ (closed_all program.types (int_cell ∷ bool_cell ∷ []))
    (λ table t. then_answers (signatures program.funs []) _ (signatures_fit program.funs [])
    (λ sigs s. subst (λ all. Fits Anything (functions all sigs 0 program.funs [] [])) (sym t.is)
    (functions_fit program.types is.types t.rest t.holds program.funs sigs (subst (AreSigned program.funs) (sym s.is) s.holds) program.funs 0 [] [] is.functions
    (λ i f e. (let same : i ≡ 0 + i = omega arith in subst (λ n. SignedAt sigs n f) same
    (signed_at program.funs sigs i f (subst (AreSigned program.funs) (sym s.is) s.holds) e)))))))

not_misfit : {A : Type 0} {P : A → Type 0} (m : Walk A) → Fits P m → m ≡ Err Misfit → ⊥
not_misfit (Ok x) h e = cc
not_misfit (Err (Past kind)) h e = cc
not_misfit (Err Misfit) h e = h.is
not_misfit (Err Stray) h e = cc

pub shaped_fits : (program : core.Program) → Shaped program → elaborated program ≢ Err Misfit
shaped_fits program is = not_misfit (elaborated program) (elaborated_fits program is)
