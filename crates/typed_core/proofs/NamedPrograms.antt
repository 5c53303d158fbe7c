-- Elaboration of a core never comes upon a stray, and types and signatures of a core name only their own variables.
use Rattle.std.proofs.Common.{◌≡◌, ◌≢◌, ℕ, zero, suc, ◌+◌, ◌≤◌, ◌<◌, inl, inr, ℤ, List, [], ◌∷◌, ◌++◌, map, length, Bool as Truth, true, false, cond, nat_lt, Some, Ok, Err, refl, sym, subst, arith}
use Rattle.std.specs.Prelude.{slice_get}
use Rattle.std.specs.List.{All, AllByRecursion, enumerate_from, list_all}
use Rattle.std.proofs.lemmas.Option.{same_Some}
use Rattle.std.proofs.lemmas.List.Elements.{All-nil, All-cons, All-head, All-tail, All-push}
use Rattle.index_sorts.specs.Context.{IndexContext}
use Rattle.xan_lin.specs.Linear.{Linear, NamesBelow}
use Rattle.xan_lin.specs.declared.term.LimitKind.{LimitKind}
use Rattle.xan_lin.specs.declared.term.LimitKind.TheVariants as limit
use Rattle.xan_lin.proofs.Booleans.{both_true, is_not_less}
use Rattle.xan_lin.proofs.FormSizes.{sized-parts}
use Rattle.state_types.specs.Tables.{IsClosed, int_cell, bool_cell}
use Rattle.state_types.specs.Types.{TypeBelow}
use Rattle.state_types.specs.Unpacking.{with_rows}
use Rattle.state_types.specs.declared.closed.Packed.{Packed}
use Rattle.state_types.specs.declared.closed.Signature.{Signature}
use Rattle.state_types.specs.declared.types.Ty.{Ty}
use Rattle.state_types.proofs.Unpacked.{rows-vars}
use Rattle.operation_rules.specs.Settings.{IsFew}
use Rattle.operation_rules.specs.Sound.{IsHeader}
use Rattle.xanadu_tree.specs.declared.linear.Linear.{Linear as Exact}
use Rattle.xanadu_tree.specs.declared.types.CoreTy.{CoreTy}
use Rattle.xanadu_tree.specs.declared.types.CoreTy.TheVariants as core_ty
use Rattle.xanadu_tree.specs.declared.types.Packing.{Packing}
use Rattle.xanadu_tree.specs.BodyRules.{IsType}
use Rattle.xanadu_tree.specs.IndexRules.{Stretch, Reaches, IsForm}
use Rattle.xanadu_tree.specs.KindRules.{Header, header}
use Rattle.xanadu_tree.specs.Shaped.{Shaped, IsPacking, IsFunction, setting}
use Rattle.xanadu_tree.specs.Shaped as shaped
use Rattle.xanadu_tree.specs.Plain as core
use Rattle.typed_core.specs.declared.goal.GoalAt.{GoalAt}
use Rattle.typed_core.specs.declared.note.Note.{Note}
use Rattle.typed_core.specs.Forms.{term_of, form_of, type_of, forms_from, types_from}
use Rattle.typed_core.specs.Goals.{body_start, function, functions, elaborated}
use Rattle.typed_core.specs.Headers.{few_parts, few_parameters, few_declarations, closed_type, closed_types, table_of, signature, signatures, AreDeclared}
use Rattle.typed_core.specs.Limits.{Past, Misfit, Stray, Walk, most, within, needed, in_context, held}
use Rattle.typed_core.specs.Places.{places_of}
use Rattle.typed_core.specs.States.{Site, there}
use Rattle.typed_core.specs.Statements.{block}
use Rattle.typed_core.specs.Strays.{form_rises, type_rises, form_below, type_below, is_closed}
use Rattle.typed_core.proofs.LimitedAnswers.{Answers, Anything, then_answers, weaker}
use Rattle.typed_core.proofs.RowsSoFar.{int_closed, bool_closed}
use Rattle.typed_core.proofs.NamedStates.{Stays, known_answer, answered, needed_stays, context_stays, there_stays, held_stays, within_stays, all_test, form_test, type_test}
use Rattle.typed_core.proofs.NamedJoins.{EntryBelow, terms_test, type_rising, Behind}
use Rattle.typed_core.proofs.NamedStatements.{block_stays}

-- ---- forms and types of a core

-- what these quantifiers declare is less than a number
pub record IsBounded (n : ℕ) (reach : List Stretch) : Type 0 where
  pub is : (x : ℕ) → Reaches reach x → x < n

terms_below : (n : ℕ) (reach : List Stretch) (ts : List (ℤ × ℕ)) → IsBounded n reach → AllByRecursion (λ t. Reaches reach t.1) ts → All (λ t. t.var < n) (map term_of ts)
terms_below n reach [] bound all = All-nil (λ t. t.var < n)
terms_below n reach (t ∷ ts) bound all = All-cons (λ u. u.var < n) (term_of t) (map term_of ts) (bound.is t.1 all.0) (terms_below n reach ts bound all.1)

form_named : (n : ℕ) (reach : List Stretch) (form : Exact) → IsBounded n reach → IsForm reach form → Answers Anything (NamesBelow n) (form_of form)
form_named n reach form bound is =
    weaker (form_of form) (λ f e. subst (λ g. NamesBelow n g) (sized-parts (map term_of form.terms) form.constant f e) (terms_below n reach form.terms bound is.names)) (known_answer (form_of form))

type_named : (types : List Packing) (n : ℕ) (reach : List Stretch) (t : CoreTy) → IsBounded n reach → IsType types reach t → Answers Anything (TypeBelow n) (type_of t)
unfolding type_of
type_named types n reach (core_ty.Int form) bound is = then_answers (form_of form) _ (form_named n reach form bound is) (λ f h. record { is = h })
type_named types n reach core_ty.Bool bound is = record { is = tt }
type_named types n reach (core_ty.Array element form) bound is = then_answers (form_of form) _ (form_named n reach form bound is.1) (λ f h. record { is = h })
type_named types n reach (core_ty.Named number) bound is = record { is = tt }

forms_stay : (n : ℕ) (reach : List Stretch) (forms : List Exact) (made : List Linear) → IsBounded n reach → AllByRecursion (IsForm reach) forms → All (NamesBelow n) made
    → Stays (All (NamesBelow n)) (forms_from forms made)
unfolding forms_from
forms_stay n reach [] made bound all done = record { is = done }
forms_stay n reach (f ∷ fs) made bound all done =
    then_answers (held (form_rises f)) _ (held_stays (form_rises f) (terms_test 0 f.terms all.0.rising))
    (λ rises u. then_answers (needed (form_of f)) _ (needed_stays (form_of f) (form_named n reach f bound all.0))
    (λ one h. forms_stay n reach fs (made ++ one ∷ []) bound all.1 (All-push (NamesBelow n) made one done h)))

types_stay : (types : List Packing) (n : ℕ) (reach : List Stretch) (ts : List CoreTy) (made : List Ty) → IsBounded n reach → AllByRecursion (IsType types reach) ts
    → All (TypeBelow n) made → Stays (All (TypeBelow n)) (types_from ts made)
unfolding types_from
types_stay types n reach [] made bound all done = record { is = done }
types_stay types n reach (t ∷ ts) made bound all done =
    then_answers (held (type_rises t)) _ (held_stays (type_rises t) (type_rising types reach t all.0))
    (λ rises u. then_answers (needed (type_of t)) _ (needed_stays (type_of t) (type_named types n reach t bound all.0))
    (λ one h. types_stay types n reach ts (made ++ one ∷ []) bound all.1 (All-push (TypeBelow n) made one done h)))

-- ---- closed types

most_by : (b : Truth) (kind : LimitKind) (count : ℕ) → nat_lt (most kind) count ≡ b
    → Stays (λ u. count ≤ most kind) (let r : Walk (Unit {0}) = cond b (Err (Past kind)) (Ok tt) in r)
most_by true kind count e = record { is = tt }
most_by false kind count e = record { is = is_not_less (most kind) count e }

pub most_stays : (kind : LimitKind) (count : ℕ) → Stays (λ u. count ≤ most kind) (within kind count)
most_stays kind count = most_by (nat_lt (most kind) count) kind count refl

record IsPacked (packed : Packed) : Type 0 where
  closed : IsClosed packed
  few : packed.vars ≤ 1024

closed_stays : (types : List Packing) (p : Packing) → IsPacking types p → Stays IsPacked (closed_type p)
unfolding closed_type
closed_stays types p is =
    let n = p.quant.count in
    let reach : List Stretch = record { first = 0; count = n } ∷ [] in
    let bound : IsBounded n reach = record { is = own_bound } in
    then_answers (forms_from p.quant.rows []) _ (forms_stay n reach p.quant.rows [] bound is.quantified.forms (All-nil (NamesBelow n)))
    (λ rows h. then_answers (types_from p.parts []) _ (types_stay types n reach p.parts [] bound is.parts (All-nil (TypeBelow n)))
    (λ parts g. then_answers (within limit.Variables n) _ (most_stays limit.Variables n)
    (λ few le. then_answers (within limit.Rows (length p.quant.rows)) _ (within_stays limit.Rows (length p.quant.rows))
    (λ less v. let made : Packed = record { vars = n; rows = rows; parts = parts; tuple = p.tuple } in
    then_answers (held (is_closed made)) _ (held_stays (is_closed made) (both_true (list_all (form_below n) rows) (list_all (type_below n) parts)
    (all_test (form_below n) (NamesBelow n) (λ f k. form_test n f k) rows h) (all_test (type_below n) (TypeBelow n) (λ t k. type_test n t k) parts g)))
    (λ closed w. record { is = record { closed = record { rows = h; parts = g }; few = le } })))))
  where
    own_bound : (x : ℕ) → Reaches (record { first = 0; count = p.quant.count } ∷ []) x → x < p.quant.count
    own_bound x (inl h) = (let less : x < 0 + p.quant.count = h.1 in omega (arith, less))
    own_bound x (inr h) = absurd h

closed_all : (types ps : List Packing) (made : List Packed) → AllByRecursion (IsPacking types) ps → All IsPacked made → Stays (All IsPacked) (closed_types ps made)
unfolding closed_types
closed_all types [] made all done = record { is = done }
closed_all types (p ∷ ps) made all done =
    then_answers (closed_type p) _ (closed_stays types p all.0) (λ one h. closed_all types ps (made ++ one ∷ []) all.1 (All-push IsPacked made one done h))

int_packed : IsPacked int_cell
int_packed = record { closed = int_closed; few = omega arith }

bool_packed : IsPacked bool_cell
bool_packed = record { closed = bool_closed; few = omega arith }

table_stays : (types ps : List Packing) → AllByRecursion (IsPacking types) ps → Stays (All IsPacked) (table_of ps)
table_stays types ps all =
    closed_all types ps (int_cell ∷ bool_cell ∷ []) all (All-cons IsPacked int_cell (bool_cell ∷ []) int_packed (All-cons IsPacked bool_cell [] bool_packed (All-nil IsPacked)))

-- ---- signatures

record IsSigned (sig : Signature) : Type 0 where
  header : IsHeader sig
  few : IsFew sig

signature_stays : (types : List Packing) (headers : List Header) (f : core.Fun) → IsFunction types headers f → Stays IsSigned (signature f)
unfolding signature
signature_stays types headers f is =
    let n = f.quant.count in
    let own : List Stretch = record { first = 0; count = n } ∷ [] in
    let bound : IsBounded n own = record { is = own_bound } in
    let all = n + f.result_quant.count in
    let both : List Stretch = record { first = n; count = f.result_quant.count } ∷ own in
    let wide : IsBounded all both = record { is = both_bound } in
    then_answers (forms_from f.quant.rows []) _ (forms_stay n own f.quant.rows [] bound is.quantified.forms (All-nil (NamesBelow n)))
    (λ rows h. then_answers (types_from f.params []) _ (types_stay types n own f.params [] bound is.params (All-nil (TypeBelow n)))
    (λ params g. then_answers (forms_from f.result_quant.rows []) _ (forms_stay all both f.result_quant.rows [] wide is.result_quantified.forms (All-nil (NamesBelow all)))
    (λ result_rows k. then_answers (held (type_rises f.result)) _ (held_stays (type_rises f.result) (type_rising types both f.result is.result))
    (λ rises u. then_answers (needed (type_of f.result)) _ (needed_stays (type_of f.result) (type_named types all both f.result wide is.result))
    (λ result l. then_answers (within limit.Variables all) _ (most_stays limit.Variables all)
    (λ few le. then_answers (within limit.Rows (length f.quant.rows)) _ (within_stays limit.Rows (length f.quant.rows))
    (λ few_rows v. then_answers (within limit.Rows (length f.result_quant.rows)) _ (within_stays limit.Rows (length f.result_quant.rows))
    (λ less w. record {
      is = record {
        header = record { rows = h; params = g; result_rows = k; result = l };
        few = record { vars = (let bounded : n + f.result_quant.count ≤ 1024 = le in omega (arith, bounded)); result_vars = (let bounded : n + f.result_quant.count ≤ 1024 = le in omega (arith, bounded)) };
      };
    }))))))))
  where
    own_bound : (x : ℕ) → Reaches (record { first = 0; count = f.quant.count } ∷ []) x → x < f.quant.count
    own_bound x (inl h) = (let less : x < 0 + f.quant.count = h.1 in omega (arith, less))
    own_bound x (inr h) = absurd h

    both_bound : (x : ℕ) → Reaches (record { first = f.quant.count; count = f.result_quant.count } ∷ record { first = 0; count = f.quant.count } ∷ []) x
        → x < f.quant.count + f.result_quant.count
    both_bound x (inl h) = h.1
    both_bound x (inr (inl h)) = (let less : x < 0 + f.quant.count = h.1 in omega (arith, less))
    both_bound x (inr (inr h)) = absurd h

signatures_stay : (types : List Packing) (headers : List Header) (fs : List core.Fun) (made : List Signature) → AllByRecursion (IsFunction types headers) fs → All IsSigned made
    → Stays (All IsSigned) (signatures fs made)
unfolding signatures
signatures_stay types headers [] made all done = record { is = done }
signatures_stay types headers (f ∷ fs) made all done =
    then_answers (signature f) _ (signature_stays types headers f all.0) (λ one h. signatures_stay types headers fs (made ++ one ∷ []) all.1 (All-push IsSigned made one done h))

-- ---- what is known of both

all_of : {A : Type 0} {P R : A → Type 0} (xs : List A) → ((x : A) → P x → R x) → All P xs → All R xs
all_of xs f all = λ k d h. f _ (all k d h)

are_declared : (table : List Packed) (sigs : List Signature) → All IsPacked table → All IsSigned sigs → AreDeclared table sigs
are_declared table sigs packed signed = record {
  closed = all_of {P = IsPacked} {R = IsClosed} table (λ p h. h.closed) packed;
  few = all_of {P = IsPacked} {R = λ p. p.vars ≤ 1024} table (λ p h. h.few) packed;
  headers = all_of {P = IsSigned} {R = IsHeader} sigs (λ s h. h.header) signed;
  signed = all_of {P = IsSigned} {R = IsFew} sigs (λ s h. h.few) signed;
}

pub declarations_are_closed : (program : core.Program) (table : List Packed) (sigs : List Signature) → Shaped program → table_of program.types ≡ Ok table
    → signatures program.funs [] ≡ Ok sigs → AreDeclared table sigs
declarations_are_closed program table sigs is made signed =
    are_declared table sigs (answered (table_of program.types) table (table_stays program.types program.types is.types) made)
    (answered (signatures program.funs []) sigs (signatures_stay program.types (map header program.funs) program.funs [] is.functions (All-nil IsSigned)) signed)

-- ---- functions

entries_below : (n k : ℕ) (ts : List Ty) → All (TypeBelow n) ts → All (EntryBelow n) (enumerate_from k ts)
entries_below n k [] all = All-nil (EntryBelow n)
entries_below n k (t ∷ ts) all = All-cons (EntryBelow n) (k, t) (enumerate_from (k + 1) ts) (All-head (TypeBelow n) t ts all) (entries_below n (k + 1) ts (All-tail (TypeBelow n) t ts all))

pub start_stays : (sig : Signature) (indices : ℕ) (goals : List GoalAt) (notes : List Note) → IsHeader sig → Stays (Behind sig.vars indices 0) (body_start sig goals notes)
unfolding body_start
start_stays sig indices goals notes is =
    let begin : IndexContext = record { vars = sig.vars; rows = [] } in
    then_answers (within limit.Parameters (length sig.params)) _ (within_stays limit.Parameters (length sig.params))
    (λ few u. then_answers (held (list_all (form_below sig.vars) sig.rows)) _
    (held_stays (list_all (form_below sig.vars) sig.rows) (all_test (form_below sig.vars) (NamesBelow sig.vars) (λ f h. form_test sig.vars f h) sig.rows is.rows))
    (λ named v. then_answers (in_context (with_rows begin sig.rows)) _
    (context_stays (with_rows begin sig.rows) (weaker (with_rows begin sig.rows) (λ ctx e. rows-vars begin ctx sig.rows e) (known_answer (with_rows begin sig.rows))))
    (λ ctx same. (let e : ctx.vars ≡ sig.vars = same in record {
      is = record {
        vars = omega arith;
        own_vars = omega (arith, e);
        types = subst (λ n. All (EntryBelow n) (enumerate_from 0 sig.params)) (sym e) (entries_below sig.vars 0 sig.params is.params);
        naming = All-nil (λ v. NamesBelow ctx.vars v.1);
        rises = tt;
        less = tt;
      };
    }))))

pub each : {A : Type 0} (P : A → Type 0) (xs : List A) (n : ℕ) (x : A) → All P xs → slice_get xs n ≡ Some x → P x
each P [] n x all e = absurd (let bad : ⊥ = cc in bad)
each P (y ∷ ys) zero x all e = subst P (same_Some y x e) (All-head P y ys all)
each P (y ∷ ys) (suc n) x all e = each P ys n x (All-tail P y ys all) e

module _ (types : List Packing) (headers : List Header) (table : List Packed) (sigs : List Signature) (declared : AreDeclared table sigs) where
  function_stays : (fun : ℕ) (f : core.Fun) (goals : List GoalAt) (notes : List Note) → IsFunction types headers f → Stays Anything (function table sigs fun f goals notes)
  unfolding function
  function_stays fun f goals notes is =
      then_answers (there (slice_get sigs fun)) _ (there_stays {P = IsHeader} (slice_get sigs fun) (λ own e. each IsHeader sigs fun own declared.headers e))
      (λ own signed. then_answers (within limit.Places (places_of f)) _ (within_stays limit.Places (places_of f))
      (λ few u. then_answers (body_start own goals notes) _ (start_stays own (shaped.body_start f).indices goals notes signed)
      (λ start b. let site : Site = record { table = table; sigs = sigs; fun = fun; own = own } in
      weaker (block site f.body start) (λ st k. tt)
      (block_stays (setting types headers f) site declared.closed f.body (shaped.body_start f) is.end 0 start is.body b))))

  functions_stay : (fs : List core.Fun) (fun : ℕ) (goals : List GoalAt) (notes : List Note) → AllByRecursion (IsFunction types headers) fs
      → Stays Anything (functions table sigs fun fs goals notes)
  unfolding functions
  functions_stay [] fun goals notes all = record { is = tt }
  functions_stay (f ∷ fs) fun goals notes all =
      then_answers (function table sigs fun f goals notes) _ (function_stays fun f goals notes all.0) (λ done u. functions_stay fs (suc fun) done.goals done.notes all.1)

-- ---- programs

few_parts_stay : (packings : List Packing) → Stays Anything (few_parts packings)
unfolding few_parts
few_parts_stay [] = record { is = tt }
few_parts_stay (p ∷ ps) = then_answers (within limit.Parameters (length p.parts)) _ (within_stays limit.Parameters (length p.parts)) (λ few u. few_parts_stay ps)

few_parameters_stay : (fs : List core.Fun) → Stays Anything (few_parameters fs)
unfolding few_parameters
few_parameters_stay [] = record { is = tt }
few_parameters_stay (f ∷ fs) = then_answers (within limit.Parameters (length f.params)) _ (within_stays limit.Parameters (length f.params)) (λ few u. few_parameters_stay fs)

few_stay : (program : core.Program) → Stays Anything (few_declarations program)
unfolding few_declarations
few_stay program =
    then_answers (within limit.Functions (length program.funs)) _ (within_stays limit.Functions (length program.funs))
    (λ a u. then_answers (within limit.Types (length program.types)) _ (within_stays limit.Types (length program.types))
    (λ b v. then_answers (few_parts program.types) _ (few_parts_stay program.types) (λ c w. few_parameters_stay program.funs)))

elaborated_stays : (program : core.Program) → Shaped program → Stays Anything (elaborated program)
unfolding elaborated
elaborated_stays program is =
    let headers = map header program.funs in
    then_answers (few_declarations program) _ (few_stay program)
    (λ few u. then_answers (table_of program.types) _ (table_stays program.types program.types is.types)
    (λ table packed. then_answers (signatures program.funs []) _ (signatures_stay program.types headers program.funs [] is.functions (All-nil IsSigned))
    (λ sigs signed. functions_stay program.types headers table sigs (are_declared table sigs packed signed) program.funs 0 [] [] is.functions)))

not_stray : {A : Type 0} {P : A → Type 0} (m : Walk A) → Stays P m → m ≡ Err Stray → ⊥
not_stray (Ok x) h e = cc
not_stray (Err (Past kind)) h e = cc
not_stray (Err Misfit) h e = cc
not_stray (Err Stray) h e = h.is

pub never_strays : (program : core.Program) → Shaped program → elaborated program ≢ Err Stray
never_strays program is = not_stray (elaborated program) (elaborated_stays program is)
