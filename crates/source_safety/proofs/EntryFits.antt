-- A run from arguments without a fault begins with arguments that fit the signature of `main`.
use Rattle.std.proofs.Common.{◌≡◌, ◌∙◌, ℕ, zero, suc, ◌+◌, ℤ, pos, List, [], ◌∷◌, ◌++◌, map, length, length-append, Bool as Truth, true, false, cond, Some, None, Ok, Err, refl, sym, ap, subst, append_assoc, arith}
use Rattle.std.specs.Prelude.{slice_get}
use Rattle.std.specs.List.{AllZip, AllByRecursion}
use Rattle.std.proofs.lemmas.List.{append-nil, length-map}
use Rattle.std.proofs.lemmas.Option.{same_Some}
use Rattle.index_sorts.specs.Entails.{AllHold}
use Rattle.xan_io.specs.Entry.{ArgKind}
use Rattle.xan_io.specs.declared.arg.Arg.{Arg}
use Rattle.xan_io.specs.declared.arg.Arg.TheVariants as arg
use Rattle.xan_lin.specs.Linear.{Linear}
use Rattle.xan_lin.specs.declared.term.LimitKind.TheVariants as limit
use Rattle.xan_lin.proofs.FormSizes.{sized-parts}
use Rattle.state_types.specs.Tables.{int_cell, bool_cell}
use Rattle.state_types.specs.Words.{Headers, HasType}
use Rattle.state_types.specs.declared.closed.Packed.{Packed}
use Rattle.state_types.specs.declared.closed.Signature.{Signature}
use Rattle.state_types.specs.declared.types.Ty.{Ty}
use Rattle.state_types.specs.declared.types.Ty.TheVariants as ty
use Rattle.state_types.proofs.Thens.{then_ok, ok_same}
use Rattle.operation_rules.specs.Entry.{is_of_kind, kind_fault, index_fault, variable_values, with_word, placed}
use Rattle.operation_rules.specs.Rules.{cell_at}
use Rattle.xanadu_tree.specs.declared.linear.Linear.{Linear as Exact}
use Rattle.xanadu_tree.specs.declared.types.CoreTy.{CoreTy}
use Rattle.xanadu_tree.specs.declared.types.CoreTy.TheVariants as core_ty
use Rattle.xanadu_tree.specs.KindRules.{kind_of}
use Rattle.xanadu_tree.specs.Plain as core
use Rattle.xanadu_tree.specs.Shaped.{IsArgument}
use Rattle.typed_core.specs.Forms.{term_of, form_of, type_of, forms_from, types_from}
use Rattle.typed_core.specs.Goals.{Elaboration}
use Rattle.typed_core.specs.Headers.{closed_types, signature, signatures}
use Rattle.typed_core.specs.Limits.{needed, within, held}
use Rattle.typed_core.specs.Meaning.{exact_form, exact_type, tag_of}
use Rattle.typed_core.specs.SourceOperands.{no_cells}
use Rattle.typed_core.specs.SourceValues.{Tag, Number, Blocks, words_of, tags_of, with_tags, tagged, separate}
use Rattle.typed_core.specs.Strays.{form_rises, type_rises}
use Rattle.typed_core.proofs.FitPrograms.{closed_all}
use Rattle.typed_core.proofs.NamedStates.{answered}
use Rattle.typed_core.proofs.SeparateStores.{separate_is}
use Rattle.source_safety.specs.Values.{headers_of, tag_for, tags_for, AreTagged, StoreHolds}
use Rattle.source_safety.specs.Whole.{values_given}
use Rattle.source_safety.proofs.ArgumentsFit.{NoFault, IsEntryType, with_word_is, arguments_fit}
use Rattle.source_safety.proofs.BlocksFare.{have_from}
use Rattle.source_safety.proofs.BlockTags.{one_more_tagged, array_tagged}
use Rattle.source_safety.proofs.BodiesStart.{IsBody, Begins}

-- ---- the signature of a function: its exact forms, which are within the bounds

needed_is : {A : Type 0} (r : _) (x : A) → needed r ≡ Ok x → r ≡ Ok x
needed_is (Ok y) x e = cc
needed_is (Err why) x e = absurd (let bad : ⊥ = cc in bad)

form_is : (form : Exact) (f : Linear) → form_of form ≡ Ok f → exact_form form ≡ f
form_is form f e = sized-parts (map term_of form.terms) form.constant f e

forms_are : (forms : List Exact) (made all : List Linear) → forms_from forms made ≡ Ok all → made ++ map exact_form forms ≡ all
unfolding forms_from
forms_are [] made all e = append-nil made ∙ ok_same made all e
forms_are (form ∷ forms) made all e =
    let s = then_ok (held (form_rises form)) _ all e in
    let t = then_ok (needed (form_of form)) _ all s.second in
    sym (append_assoc made (exact_form form ∷ []) (map exact_form forms))
    ∙ ap (λ f. (made ++ f ∷ []) ++ map exact_form forms) (form_is form t.value (needed_is (form_of form) t.value t.first)) ∙ forms_are forms (made ++ t.value ∷ []) all t.second

type_is : (t : CoreTy) (u : Ty) → type_of t ≡ Ok u → exact_type t ≡ u
unfolding type_of
type_is (core_ty.Int form) u e = let s = then_ok (form_of form) _ u e in ap (λ f. ty.Int f) (form_is form s.value s.first) ∙ ok_same _ u s.second
type_is core_ty.Bool u e = ok_same _ u e
type_is (core_ty.Array element form) u e = let s = then_ok (form_of form) _ u e in ap (λ f. ty.Array element f) (form_is form s.value s.first) ∙ ok_same _ u s.second
type_is (core_ty.Named number) u e = ok_same _ u e

types_are : (ts : List CoreTy) (made all : List Ty) → types_from ts made ≡ Ok all → made ++ map exact_type ts ≡ all
unfolding types_from
types_are [] made all e = append-nil made ∙ ok_same made all e
types_are (t ∷ ts) made all e =
    let s = then_ok (held (type_rises t)) _ all e in
    let u = then_ok (needed (type_of t)) _ all s.second in
    sym (append_assoc made (exact_type t ∷ []) (map exact_type ts))
    ∙ ap (λ x. (made ++ x ∷ []) ++ map exact_type ts) (type_is t u.value (needed_is (type_of t) u.value u.first)) ∙ types_are ts (made ++ u.value ∷ []) all u.second

pub record IsExact (f : core.Fun) (sig : Signature) : Type 0 where
  pub vars : f.quant.count ≡ sig.vars
  pub rows : map exact_form f.quant.rows ≡ sig.rows
  pub params : map exact_type f.params ≡ sig.params

pub signature_is : (f : core.Fun) (sig : Signature) → signature f ≡ Ok sig → IsExact f sig
unfolding signature
signature_is f sig e =
    let s = then_ok (forms_from f.quant.rows []) _ sig e in
    let t = then_ok (types_from f.params []) _ sig s.second in
    let u = then_ok (forms_from f.result_quant.rows []) _ sig t.second in
    let v = then_ok (held (type_rises f.result)) _ sig u.second in
    let w = then_ok (needed (type_of f.result)) _ sig v.second in
    let x = then_ok (within limit.Variables (f.quant.count + f.result_quant.count)) _ sig w.second in
    let y = then_ok (within limit.Rows (length f.quant.rows)) _ sig x.second in
    let z = then_ok (within limit.Rows (length f.result_quant.rows)) _ sig y.second in
    subst (IsExact f) (ok_same _ sig z.second) (record { vars = refl; rows = forms_are f.quant.rows [] s.value s.first; params = types_are f.params [] t.value t.first })

record MoreOf (made all : List Signature) : Type 0 where
  rest : List Signature
  is : made ++ rest ≡ all

signatures_go : (fs : List core.Fun) (made all : List Signature) → signatures fs made ≡ Ok all → MoreOf made all
unfolding signatures
signatures_go [] made all e = record { rest = []; is = append-nil made ∙ ok_same made all e }
signatures_go (f ∷ fs) made all e =
    let s = then_ok (signature f) _ all e in
    let later = signatures_go fs (made ++ s.value ∷ []) all s.second in
    record { rest = s.value ∷ later.rest; is = sym (append_assoc made (s.value ∷ []) later.rest) ∙ later.is }

get_behind : (made rest : List Signature) (s : Signature) → slice_get (made ++ s ∷ rest) (length made) ≡ Some s
get_behind [] rest s = refl
get_behind (m ∷ ms) rest s = get_behind ms rest s

pub record SignatureAt (f : core.Fun) (all : List Signature) (number : ℕ) : Type 0 where
  pub sig : Signature
  pub is : signature f ≡ Ok sig
  pub there : slice_get all number ≡ Some sig

pub signature_at : (fs : List core.Fun) (made all : List Signature) (i : ℕ) (f : core.Fun) → signatures fs made ≡ Ok all → slice_get fs i ≡ Some f → SignatureAt f all (length made + i)
unfolding signatures
signature_at [] made all i f e at = absurd (let bad : ⊥ = cc in bad)
signature_at (g ∷ gs) made all zero f e at =
    let s = then_ok (signature g) _ all e in
    let more = signatures_go gs (made ++ s.value ∷ []) all s.second in
    let here : length made + 0 ≡ length made = omega arith in
    record {
      sig = s.value;
      is = ap signature (sym (same_Some g f at)) ∙ s.first;
      there = ap (slice_get all) here ∙ ap (λ l. slice_get l (length made)) (sym (sym (append_assoc made (s.value ∷ []) more.rest) ∙ more.is)) ∙ get_behind made more.rest s.value;
    }
signature_at (g ∷ gs) made all (suc i) f e at =
    let s = then_ok (signature g) _ all e in
    let it = signature_at gs (made ++ s.value ∷ []) all i f s.second at in
    let many : length (made ++ s.value ∷ []) + i ≡ length made + suc i = (let l = length-append made (s.value ∷ []) in omega (arith, l)) in
    record { sig = it.sig; is = it.is; there = ap (slice_get all) (sym many) ∙ it.there }

-- ---- values of variables

values_many : (first count : ℕ) (args : List Arg) (ts : List Ty) → length (variable_values first count args ts) ≡ count
unfolding variable_values
values_many first zero args ts = refl
values_many first (suc count) args ts = ap suc (values_many (suc first) count args ts)

-- ---- tags

tags_same : (number : ℕ) (args : List Arg) (ts : List Ty) → length args ≡ length ts → kind_fault number args ts ≡ None → map tag_of args ≡ tags_for ts
unfolding kind_fault tags_for
tags_same number [] [] many e = refl
tags_same number [] (t ∷ ts) many e = absurd (let bad : ⊥ = omega (arith, many) in bad)
tags_same number (a ∷ args) [] many e = absurd (let bad : ⊥ = omega (arith, many) in bad)
tags_same number (a ∷ args) (t ∷ ts) many e = by_test (is_of_kind a t) refl e (λ h. tags_same (suc number) args ts (omega (arith, many)) h)
  where
    tag_is : (a : Arg) (t : Ty) → is_of_kind a t ≡ true → tag_of a ≡ tag_for t
    tag_is (arg.Int n) (ty.Int form) k = refl
    tag_is (arg.Bool b) ty.Bool k = refl
    tag_is (arg.Array cells) (ty.Array element form) k = refl
    tag_is a t k = absurd (let bad : ⊥ = cc in bad)

    by_test : (b : Truth) → is_of_kind a t ≡ b → cond b (kind_fault (suc number) args ts) (Some (ArgKind number)) ≡ None
        → (kind_fault (suc number) args ts ≡ None → map tag_of args ≡ tags_for ts) → map tag_of (a ∷ args) ≡ tags_for (t ∷ ts)
    by_test true k e later = ap (λ g. g ∷ map tag_of args) (tag_is a t k) ∙ ap (λ gs. tag_for t ∷ gs) (later e)
    by_test false k e later = absurd (let bad : ⊥ = cc in bad)

words_back : (gs : List Tag) (ws : List ℤ) → length ws ≡ length gs → words_of (with_tags gs ws) ≡ ws
unfolding words_of with_tags
words_back [] [] many = refl
words_back [] (w ∷ ws) many = absurd (let bad : ⊥ = omega (arith, many) in bad)
words_back (g ∷ gs) [] many = absurd (let bad : ⊥ = omega (arith, many) in bad)
words_back (g ∷ gs) (w ∷ ws) many = ap (λ l. w ∷ l) (words_back gs ws (omega (arith, many)))

tags_back : (gs : List Tag) (ws : List ℤ) → length ws ≡ length gs → tags_of (with_tags gs ws) ≡ gs
unfolding tags_of with_tags
tags_back [] [] many = refl
tags_back [] (w ∷ ws) many = absurd (let bad : ⊥ = omega (arith, many) in bad)
tags_back (g ∷ gs) [] many = absurd (let bad : ⊥ = omega (arith, many) in bad)
tags_back (g ∷ gs) (w ∷ ws) many = ap (λ l. g ∷ l) (tags_back gs ws (omega (arith, many)))

zip_many : (headers : Headers) (values ws : List ℤ) (ts : List Ty) → AllZip (HasType headers values) ws ts → length ws ≡ length ts
zip_many headers values [] [] all = refl
zip_many headers values [] (t ∷ ts) all = absurd all
zip_many headers values (w ∷ ws) [] all = absurd all
zip_many headers values (w ∷ ws) (t ∷ ts) all = ap suc (zip_many headers values ws ts all.1)

-- the arrays of arguments have cells of numbers
placed_tagged : (table : List Packed) → cell_at table 0 ≡ Ok int_cell → (args : List Arg) (store : Blocks) (words : List ℤ) (new : Blocks) → AreTagged table store
    → placed (separate no_cells) args store ≡ Some (words, new) → AreTagged table new
unfolding placed tags_for
placed_tagged table cell [] store words new all e =
    let same : store ≡ new = ap (λ (q : List ℤ × Blocks). q.1) (let both : (let q : List ℤ × Blocks = ([], store) in q) ≡ (words, new) = cc in both) in
    subst (AreTagged table) same all
placed_tagged table cell (arg.Int n ∷ args) store words new all e =
    placed_tagged table cell args store _ new all (with_word_is n (placed (separate no_cells) args store) words new e).is
placed_tagged table cell (arg.Bool b ∷ args) store words new all e =
    placed_tagged table cell args store _ new all (with_word_is _ (placed (separate no_cells) args store) words new e).is
placed_tagged table cell (arg.Array cells ∷ args) store words new all e =
    by_room ((separate no_cells).room store (length cells + 2)) e (λ rest is. placed_tagged table cell args more rest new
    (one_more_tagged table store (record { descriptor = 0; cells = tagged no_cells cells }) all (array_tagged table 0 int_cell Number cells cell refl)) is)
  where
    more : Blocks
    more = record store { blocks = store.blocks ++ record { descriptor = 0; cells = tagged no_cells cells } ∷ [] }

    by_room : (b : Truth) → cond b (with_word (pos (length store.blocks)) (placed (separate no_cells) args more)) None ≡ Some (words, new)
        → ((rest : List ℤ) → placed (separate no_cells) args more ≡ Some (rest, new) → AreTagged table new) → AreTagged table new
    by_room true e later =
        let w = with_word_is (pos (length store.blocks)) (placed (separate no_cells) args more) words new e in
        later w.rest w.is
    by_room false e later = absurd (let bad : ⊥ = cc in bad)

-- ---- the whole

entry_types : (ts : List CoreTy) → AllByRecursion (λ t. IsArgument (kind_of t)) ts → AllByRecursion IsEntryType (map exact_type ts)
entry_types [] all = tt
entry_types (core_ty.Int form ∷ ts) all = (tt, entry_types ts all.1)
entry_types (core_ty.Bool ∷ ts) all = (tt, entry_types ts all.1)
entry_types (core_ty.Array element form ∷ ts) all = (all.0, entry_types ts all.1)
entry_types (core_ty.Named number ∷ ts) all = (tt, entry_types ts all.1)

abbrev pub empty_store : (heap : ℕ) → Blocks
empty_store heap = record { blocks = []; heap = heap }

empty_holds : (table : List Packed) (heap : ℕ) → StoreHolds table (empty_store heap)
empty_holds table heap = record {
  fits = record { whole = refl; blocks = λ block header e. absurd (let bad : ⊥ = cc in bad) };
  tagged = record { by = λ block b e. absurd (let bad : ⊥ = cc in bad) };
}

number_cells : (program : core.Program) (made : Elaboration) → closed_types program.types (int_cell ∷ bool_cell ∷ []) ≡ Ok made.table → cell_at made.table 0 ≡ Ok int_cell
unfolding cell_at
number_cells program made e =
    let closed = answered (closed_types program.types (int_cell ∷ bool_cell ∷ [])) made.table (closed_all program.types (int_cell ∷ bool_cell ∷ [])) e in
    ap (λ t. cell_at t 0) closed.is

module _ (program : core.Program) (made : Elaboration) (fun : ℕ) (f : core.Fun) (b : IsBody program made fun f) (there : slice_get program.funs fun ≡ Some f)
    (argument : AllByRecursion (λ t. IsArgument (kind_of t)) f.params) (args : List Arg) where
  own_exact : IsExact f b.segment.own
  own_exact =
      let from : 0 + fun ≡ fun = omega arith in
      let at = subst (λ n. SignatureAt f made.sigs n) from (signature_at program.funs [] made.sigs fun f b.segment.headers there) in
      let same : at.sig ≡ b.segment.own = same_Some at.sig b.segment.own (sym at.there ∙ b.segment.signature) in
      subst (IsExact f) same (signature_is f at.sig at.is)

  pub entry_begins : (fault : NoFault f.quant.count (map exact_form f.quant.rows) (map exact_type f.params) args) (heap : ℕ) (words : List ℤ) (new : Blocks)
      → placed (separate no_cells) args (empty_store heap) ≡ Some (words, new) → Begins program made fun f b (values_given b.segment.own args) (with_tags (map tag_of args) words) new
  entry_begins fault heap words new e =
      let x = own_exact in
      let own = b.segment.own in
      let values = values_given own args in
      let same : variable_values 0 f.quant.count args (map exact_type f.params) ≡ values =
      ap (λ n. variable_values 0 n args (map exact_type f.params)) x.vars ∙ ap (λ ts. variable_values 0 own.vars args ts) x.params in
      let cell = number_cells program made b.segment.types in
      let many : length args ≡ length own.params = fault.many ∙ ap length x.params in
      let kinds = subst (λ ts. kind_fault 1 args ts ≡ None) x.params fault.kinds in
      let fit = arguments_fit (separate no_cells) (separate_is no_cells) made.table cell values 1 args own.params (empty_store heap) words new many kinds
      (subst (λ ts. index_fault 1 values args ts ≡ None) x.params (subst (λ vs. index_fault 1 vs args (map exact_type f.params) ≡ None) same fault.indices))
      (subst (AllByRecursion IsEntryType) x.params (entry_types f.params argument)) (empty_holds made.table heap).fits e in
      let tags = tags_same 1 args own.params many kinds in
      let count : length words ≡ length (map tag_of args) = zip_many (headers_of new) values words own.params fit.typed ∙ sym many ∙ sym (length-map args tag_of) in
      record {
        one_each = values_many 0 own.vars args own.params;
        hold = subst (λ rs. AllHold values rs) x.rows (subst (λ vs. AllHold vs (map exact_form f.quant.rows)) same fault.hold);
        have = have_from (headers_of new) values (with_tags (map tag_of args) words) own.params
            (subst (λ ws. AllZip (HasType (headers_of new) values) ws own.params) (sym (words_back (map tag_of args) words count)) fit.typed) (tags_back (map tag_of args) words count ∙ tags);
        holds = record { fits = fit.fits; tagged = placed_tagged made.table cell args (empty_store heap) words new (empty_holds made.table heap).tagged e };
      }
