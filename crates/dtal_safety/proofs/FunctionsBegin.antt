-- Where a function begins, its signature's state type holds of the words of its arguments.
use Rattle.std.proofs.Common.{◌≡◌, ◌∙◌, ℕ, zero, suc, ◌+◌, ◌-◌, ◌≤◌, ◌<◌, ◌==◌, ℤ, pos, cond, get_or, List, [], ◌∷◌, map, take, length, length-append, replicate, nat_lt, Bool as Test, true, false, Some, Result, Ok, Err, refl, sym, ap, subst, arith}
use Rattle.std.specs.List.{All, AllZip}
use Rattle.std.proofs.lemmas.Bool.Decides.{Decides-eqb}
use Rattle.std.proofs.lemmas.List.{length-replicate, get_or_append_left}
use Rattle.std.proofs.lemmas.List.Elements.{All-nil, All-cons, All-head, All-tail}
use Rattle.std.proofs.lemmas.Option.{none-some, same_Some}
use Rattle.index_sorts.specs.Context.{IndexContext, new_context}
use Rattle.index_sorts.specs.Entails.{AllHold}
use Rattle.index_sorts.specs.declared.error.ContextError.{ContextError}
use Rattle.index_sorts.specs.declared.error.ContextError.TheVariants as context_error
use Rattle.xan_lin.specs.Linear.{Linear}
use Rattle.xan_lin.specs.Value.{Holds as RowHolds}
use Rattle.state_types.specs.PlaceTypes.{type_at}
use Rattle.state_types.specs.Words.{Headers, HasType}
use Rattle.state_types.specs.declared.closed.Signature.{Signature}
use Rattle.state_types.specs.declared.state.StateType.{StateType}
use Rattle.state_types.specs.declared.types.Ty.{Ty}
use Rattle.state_types.proofs.Thens.{then_ok, ok_same}
use Rattle.operation_rules.specs.Faults.{filled}
use Rattle.operation_rules.proofs.RuleFacts.{OkHolds, assuming_grows, filled_ok}
use Rattle.dtal_code.specs.Declarations.{stated, numbered, state_of, state_with, first_state}
use Rattle.dtal_code.specs.Places.{places_of}
use Rattle.dtal_code.specs.Verdicts.{by_rule}
use Rattle.dtal_code.proofs.TypesBelow.{ruled_ok}
use Rattle.dtal_safety.specs.Fitting.{word_at, Holds}

-- ---- the context

new_is : (many : Test) (vars : ℕ) (ctx : IndexContext)
    → cond many (let r : Result IndexContext ContextError = Err context_error.Variables in r) (Ok (record { vars = vars; rows = [] })) ≡ Ok ctx
    → (ctx.vars ≡ vars) × (ctx.rows ≡ [])
new_is true vars ctx e = absurd (let bad : ⊥ = cc in bad)
new_is false vars ctx e = (let same = ok_same _ ctx e in (ap (λ z. z.vars) (sym same), ap (λ z. z.rows) (sym same)))

rows_hold : (values : List ℤ) (rows : List Linear) → AllHold values rows → All (OkHolds values) (map Ok rows)
rows_hold values [] hold = All-nil (OkHolds values)
rows_hold values (row ∷ rows) hold =
    All-cons (OkHolds values) (Ok row) (map Ok rows) (All-head (RowHolds values) row rows hold) (rows_hold values rows (All-tail (RowHolds values) row rows hold))

stated_holds : (vars : ℕ) (rows : List Linear) (ctx : IndexContext) (values : List ℤ) → stated vars rows ≡ Ok ctx → AllHold values rows
    → (ctx.vars ≡ vars) × AllHold values ctx.rows
unfolding stated
stated_holds vars rows ctx values e hold =
    let s = then_ok (new_context vars) _ ctx e in
    let new = new_is (nat_lt 1024 vars) vars s.value s.first in
    let grown = assuming_grows values (map Ok rows) s.value ctx s.second (subst (λ (rs : List Linear). AllHold values rs) (sym new.1) (All-nil (RowHolds values))) (rows_hold values rows hold) in
    (grown.0 ∙ new.0, grown.1)

-- ---- the places

numbered_by : (headers : Headers) (values : List ℤ) (word : ℕ → ℤ) (place other : ℕ) (w : ℤ) (t u : Ty) (later : List (ℕ × Ty)) (b : Test) → (place == other) ≡ b
    → word place ≡ w → HasType headers values w t → cond b (Some t) (type_at other later) ≡ Some u → (type_at other later ≡ Some u → HasType headers values (word other) u)
    → HasType headers values (word other) u
numbered_by headers values word place other w t u later true is same has e more =
    let there : word other ≡ w = ap word (sym ((Decides-eqb place other).0 is)) ∙ same in
    subst (λ x. HasType headers values x u) (sym there) (subst (λ y. HasType headers values w y) (same_Some t u e) has)
numbered_by headers values word place other w t u later false is same has e more = more e

numbered_typed : (headers : Headers) (values : List ℤ) (word : ℕ → ℤ) (words : List ℤ) (params : List Ty) (place other : ℕ) (t : Ty) → AllZip (HasType headers values) words params
    → ((k : ℕ) → k < length words → word (place + k) ≡ get_or words k (pos 0)) → type_at other (numbered place params) ≡ Some t → HasType headers values (word other) t
unfolding numbered
numbered_typed headers values word words [] place other t zip is e = absurd (none-some t e)
numbered_typed headers values word [] (p ∷ params) place other t zip is e = absurd zip
numbered_typed headers values word (w ∷ words) (p ∷ params) place other t zip is e =
    numbered_by headers values word place other w p t (numbered (suc place) params) (place == other) refl
    (ap word (let z : place ≡ place + 0 = omega arith in z) ∙ is 0 (omega arith)) zip.0 e
    (λ f. numbered_typed headers values word words params (suc place) other t zip.1
    (λ k h. ap word (let z : suc place + k ≡ place + suc k = omega arith in z) ∙ is (suc k) (omega arith)) f)

pub places_count : (words : List ℤ) → length words ≤ 256 → length (places_of words) ≡ 256
unfolding places_of
places_count words le =
    let a = length-append words (replicate (256 - length words) (pos 0)) in
    let b = length-replicate (256 - length words) (pos 0) in
    omega (arith, a, b, le)

word_of : (words : List ℤ) (k : ℕ) → k < length words → word_at (places_of words) k ≡ get_or words k (pos 0)
unfolding places_of
word_of words k h = get_or_append_left words (replicate (256 - length words) (pos 0)) (pos 0) k h

-- ---- both

pub begun_holds : (headers : Headers) (sig : Signature) (state : StateType) (values words : List ℤ) → first_state sig ≡ Ok state → length values ≡ sig.vars
    → AllHold values sig.rows → AllZip (HasType headers values) words sig.params → Holds headers (places_of words) values state
unfolding state_with
begun_holds headers sig state values words e one hold zip =
    let s = then_ok (by_rule (filled (stated sig.vars sig.rows))) _ state e in
    let ctx = stated_holds sig.vars sig.rows s.value values (filled_ok (stated sig.vars sig.rows) s.value (ruled_ok (filled (stated sig.vars sig.rows)) s.value s.first)) hold in
    subst (λ x. Holds headers (places_of words) values x) (ok_same (state_of s.value (numbered 0 sig.params)) state s.second) (record {
      one_each = one ∙ sym ctx.0;
      hold = ctx.1;
      typed = λ place t f. numbered_typed headers values (word_at (places_of words)) words sig.params 0 place t zip
          (λ k h. ap (λ j. word_at (places_of words) j) (let z : 0 + k ≡ k = omega arith in z) ∙ word_of words k h) f;
    })

pub own_taken : (n : ℕ) (values : List ℤ) → length values ≡ n → take n values ≡ values
own_taken zero [] e = refl
own_taken zero (v ∷ values) e = absurd (let bad : ⊥ = omega (arith, e) in bad)
own_taken (suc n) [] e = absurd (let bad : ⊥ = omega (arith, e) in bad)
own_taken (suc n) (v ∷ values) e = ap (λ vs. v ∷ vs) (own_taken n values (omega (arith, e)))
