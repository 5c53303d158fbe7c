-- The state that is written at a label passes.
use Rattle.std.proofs.Common.{sym, ◌++◌, ◌≡◌, ℕ, ◌≤◌, ◌==◌, Bool as Truth, true, false, cond, List, [], ◌∷◌, length, map, Option, Some, None, Result, Ok, Err, nat_le, nat_lt, refl, ap, ◌∙◌, arith, ◌&&◌, slice_get, if◌then◌else◌}
use Rattle.std.specs.List.{All, list_all}
use Rattle.std.proofs.lemmas.Bool.{and_from, and_parts}
use Rattle.std.proofs.lemmas.Bool.Decides.{nat_tests}
use Rattle.std.proofs.lemmas.List.Elements.{All-head, All-tail}
use Rattle.index_sorts.specs.Context.{IndexContext, new_context}
use Rattle.index_sorts.specs.declared.error.ContextError.{ContextError}
use Rattle.index_sorts.specs.declared.error.ContextError.TheVariants.{Variables, Rows}
use Rattle.index_sorts.specs.Known.{knows, with_row}
use Rattle.xan_lin.specs.Linear.{Linear, NamesBelow}
use Rattle.state_types.specs.Answers.{◌>>=◌}
use Rattle.state_types.specs.PlaceTypes.{with_type}
use Rattle.state_types.specs.Types.{TypeBelow}
use Rattle.state_types.specs.declared.closed.Packed.{Packed}
use Rattle.state_types.specs.declared.closed.Signature.{Signature}
use Rattle.state_types.specs.declared.state.StateType.{StateType}
use Rattle.state_types.specs.declared.types.Ty.{Ty}
use Rattle.state_types.specs.declared.types.Ty.TheVariants as ty
use Rattle.state_types.proofs.Thens.{then_ok, ok_same}
use Rattle.operation_rules.specs.Applied.{all_assuming}
use Rattle.operation_rules.specs.Faults.{filled, or_fault}
use Rattle.operation_rules.specs.declared.error.Fault.TheVariants.{NoType}
use Rattle.operation_rules.specs.Rules.{tuple_at, only_tuple}
use Rattle.three_address.specs.Typing.{IsLabel, TypeExists, stated as low_stated}
use Rattle.dtal_code.specs.Declarations.{is_tuple, type_exists, types_exist, form_is_below, rows_are_below, type_is_below, types_are_below, are_few, stated, state_of, state_with, typed_types, state_verdict, label_verdict}
use Rattle.dtal_code.specs.Verdicts.{asks, by_rule}
use Rattle.dtal_code.specs.declared.refusal.Rule.TheVariants as rule
use Rattle.dtal_emit.specs.Emitted.{at_homes, label_state}
use Rattle.dtal_emit.specs.Homes.{home_of}
use Rattle.emission_acceptance.specs.LabelsApart.{IsOwnState}
use Rattle.emission_acceptance.proofs.WaysPass.{tested_all, form_below}

-- the state of the text's label
abbrev pub text_of : List ℕ → StateType → StateType
text_of homes label = state_of label.ctx (at_homes homes label.places [])

-- ---- tests of types

pub exists : (table : List Packed) (t : Ty) → TypeExists table t → type_exists table t ≡ true
unfolding tuple_at
exists table (ty.Int form) h = refl
exists table ty.Bool h = refl
exists table (ty.Array element form) h = grind (arith, nat_tests)
exists table (ty.Named number) h = is_one (slice_get table number) h.0 h.1
  where
    is_one : (found : Option Packed) (packed : Packed) → (or_fault NoType found >>= (λ p. only_tuple p)) ≡ Ok packed → is_tuple found ≡ true
    is_one None packed e = absurd (let bad : ⊥ = cc in bad)
    is_one (Some p) packed e = by_test p.tuple refl e
      where
        by_test : (t : Truth) → p.tuple ≡ t → (if t then Ok p else Err NoType) ≡ Ok packed → p.tuple ≡ true
        by_test true s e = s
        by_test false s e = absurd (let bad : ⊥ = cc in bad)

pub type_below : (vars : ℕ) (t : Ty) → TypeBelow vars t → type_is_below vars t ≡ true
type_below vars (ty.Int form) h = form_below vars form h
type_below vars ty.Bool h = refl
type_below vars (ty.Array element form) h = form_below vars form h
type_below vars (ty.Named number) h = refl

-- ---- types at homes

written_by : (p : Ty → Truth) (first second : Truth) (here : ℕ × Ty) (x : ℕ × Ty) (xs later : List (ℕ × Ty)) → p here.1 ≡ true → p x.1 ≡ true → list_all p (typed_types xs) ≡ true
    → list_all p (typed_types later) ≡ true → list_all p (typed_types (cond first (x ∷ later) (cond second (here ∷ xs) (here ∷ x ∷ xs)))) ≡ true
written_by p true second here x xs later h e f g = and_from _ _ e g
written_by p false true here x xs later h e f g = and_from _ _ h f
written_by p false false here x xs later h e f g = and_from _ _ h (and_from _ _ e f)

written_test : (p : Ty → Truth) (key : ℕ) (t : Ty) (xs : List (ℕ × Ty)) → p t ≡ true → list_all p (typed_types xs) ≡ true → list_all p (typed_types (with_type key t xs)) ≡ true
written_test p key t [] h all = and_from _ _ h refl
written_test p key t (x ∷ xs) h all =
    let both = and_parts (p x.1) (list_all p (typed_types xs)) all in
    written_by p (nat_lt x.0 key) (x.0 == key) (key, t) x xs (with_type key t xs) h both.0 both.1 (written_test p key t xs h both.1)

homes_test : (p : Ty → Truth) (homes : List ℕ) (places made : List (ℕ × Ty)) → All (λ (x : ℕ × Ty). p x.1 ≡ true) places → list_all p (typed_types made) ≡ true
    → list_all p (typed_types (at_homes homes places made)) ≡ true
unfolding at_homes
homes_test p homes [] made all e = e
homes_test p homes (x ∷ places) made all e =
    let P : ℕ × Ty → Type 0 = λ y. p y.1 ≡ true in
    homes_test p homes places (with_type (home_of homes x.0) x.1 made) (All-tail P x places all) (written_test p (home_of homes x.0) x.1 made (All-head P x places all) e)

-- ---- contexts

pub same_stated : (vars : ℕ) (rows : List Linear) → stated vars rows ≡ low_stated vars rows
unfolding stated low_stated
same_stated vars rows = refl

few_by : (t : Truth) (vars : ℕ) (ctx : IndexContext) → nat_lt 1024 vars ≡ t
    → (let r : Result IndexContext ContextError = (if t then Err Variables else Ok (record { vars = vars; rows = [] })) in r) ≡ Ok ctx → vars ≤ 1024
few_by true vars ctx e f = absurd (let bad : ⊥ = cc in bad)
few_by false vars ctx e f = grind (arith, nat_tests)

pub stated_few : (vars : ℕ) (rows : List Linear) (ctx : IndexContext) → low_stated vars rows ≡ Ok ctx → vars ≤ 1024
unfolding low_stated
stated_few vars rows ctx e =
    let one = then_ok (new_context vars) (λ c. all_assuming (map Ok rows) c) ctx e in
    few_by (nat_lt 1024 vars) vars one.value refl one.first

row_vars : (row : Linear) (ctx more : IndexContext) → with_row ctx row ≡ Ok more → more.vars ≡ ctx.vars
unfolding with_row
row_vars row ctx more e = by_tests (knows ctx row) (nat_le 512 (length ctx.rows)) e
  where
    by_tests : (a b : Truth) → (let r : Result IndexContext ContextError = (if a then Ok ctx else if b then Err Rows else Ok (record ctx { rows = ctx.rows ++ row ∷ [] })) in r) ≡ Ok more
        → more.vars ≡ ctx.vars
    by_tests true b e = ap (λ (c : IndexContext). c.vars) (sym (ok_same _ _ e))
    by_tests false true e = absurd (let bad : ⊥ = cc in bad)
    by_tests false false e = ap (λ (c : IndexContext). c.vars) (sym (ok_same _ _ e))

rows_vars : (rows : List Linear) (ctx more : IndexContext) → all_assuming (map Ok rows) ctx ≡ Ok more → more.vars ≡ ctx.vars
unfolding all_assuming
rows_vars [] ctx more e = ap (λ (c : IndexContext). c.vars) (sym (ok_same _ _ e))
rows_vars (row ∷ rows) ctx more e =
    let one = then_ok (with_row ctx row) (λ c. all_assuming (map Ok rows) c) more e in
    rows_vars rows one.value more one.second ∙ row_vars row ctx one.value one.first

new_by : (t : Truth) (vars : ℕ) (ctx : IndexContext)
    → (let r : Result IndexContext ContextError = (if t then Err Variables else Ok (record { vars = vars; rows = [] })) in r) ≡ Ok ctx → ctx.vars ≡ vars
new_by true vars ctx e = absurd (let bad : ⊥ = cc in bad)
new_by false vars ctx e = ap (λ (c : IndexContext). c.vars) (sym (ok_same _ _ e))

pub stated_vars : (vars : ℕ) (rows : List Linear) (ctx : IndexContext) → low_stated vars rows ≡ Ok ctx → ctx.vars ≡ vars
unfolding low_stated
stated_vars vars rows ctx e =
    let one = then_ok (new_context vars) (λ c. all_assuming (map Ok rows) c) ctx e in
    rows_vars rows one.value ctx one.second ∙ new_by (nat_lt 1024 vars) vars one.value one.first

pub few_test : (vars : ℕ) (rows : List Linear) → vars ≤ 1024 → length rows ≤ 512 → are_few vars rows ≡ true
few_test vars rows h k = and_from _ _ (upto vars 1024 h) (upto (length rows) 512 k)
  where
    upto : (m n : ℕ) → m ≤ n → nat_le m n ≡ true
    upto m n h = grind (arith, nat_tests)

-- ---- the whole

pub label_stands : (homes : List ℕ) (table : List Packed) (sig : Signature) (label : StateType) (before : Option StateType) → IsLabel table sig label before → IsOwnState homes label
    → label_verdict table sig (Some (label_state homes label)) ≡ Ok (text_of homes label)
unfolding state_verdict state_with
label_stands homes table sig label before is own =
    let vars = label.ctx.vars in
    let rows = label.ctx.rows in
    let places = at_homes homes label.places [] in
    let exist : types_exist table (typed_types places) ≡ true =
    homes_test (type_exists table) homes label.places []
    (λ k d l. exists table _ (is.types k d l).1) refl in
    let named : types_are_below vars (typed_types places) ≡ true =
    homes_test (type_is_below vars) homes label.places [] (λ k d l. type_below vars _ (is.types k d l).0) refl in
    let below : rows_are_below vars rows ≡ true = tested_all (NamesBelow vars) (form_is_below vars) (form_below vars) rows is.rows in
    let many : nat_le sig.vars vars ≡ true = (let h = is.as_many in grind (arith, nat_tests)) in
    let few : are_few vars rows ≡ true = few_test vars rows (stated_few vars rows label.ctx own.is_own) is.few in
    ap (λ t. asks t rule.NoType >>= (λ _. asks (nat_le sig.vars vars) rule.Edge >>= (λ _. asks (rows_are_below vars rows && types_are_below vars (typed_types places)) rule.Form
    >>= (λ _. asks (are_few vars rows) rule.Size >>= (λ _. state_with vars rows places))))) exist
    ∙ ap (λ t. asks t rule.Edge >>= (λ _. asks (rows_are_below vars rows && types_are_below vars (typed_types places)) rule.Form
    >>= (λ _. asks (are_few vars rows) rule.Size >>= (λ _. state_with vars rows places)))) many
    ∙ ap (λ t. asks t rule.Form >>= (λ _. asks (are_few vars rows) rule.Size >>= (λ _. state_with vars rows places))) (and_from _ _ below named)
    ∙ ap (λ t. asks t rule.Size >>= (λ _. state_with vars rows places)) few
    ∙ ap (λ m. by_rule (filled m) >>= (λ ctx. Ok (state_of ctx places))) (same_stated vars rows ∙ own.is_own)
