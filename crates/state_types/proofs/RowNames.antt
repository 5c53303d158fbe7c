-- What a call gives names only present variables.
use Rattle.std.proofs.Common.{◌≡◌, ℕ, zero, suc, ◌+◌, ◌-◌, ◌<◌, ◌≤◌, List, [], ◌∷◌, ◌++◌, map, get_or, Bool as Truth, true, false, cond, nat_lt, Option, Some, None, Ok, refl, sym, ◌∙◌, ap, subst, arith}
use Rattle.std.specs.List.{All}
use Rattle.std.proofs.lemmas.List.Elements.{All-nil, All-cons, All-head, All-tail, All-push, All-map}
use Rattle.index_sorts.specs.Context.{IndexContext, fresh_from, with_variables}
use Rattle.index_sorts.specs.Known.{same_form}
use Rattle.xan_lin.specs.Linear.{Linear, NamesBelow, difference_of}
use Rattle.xan_lin.specs.Subst.{subst_of}
use Rattle.state_types.specs.Answers.{Check, within_bounds}
use Rattle.state_types.specs.Matching.{pair_of, pairs_of, pair_at, pairs_at, is_alone, index_or_zero, value_for, values_for, both_differences, differences, index_rows, type_rows, own_rows, demanded, found_with, matched, meeting}
use Rattle.state_types.specs.Naming.{ValuesBelow, FoundBelow, UnpackedBelow}
use Rattle.state_types.specs.Tables.{IsClosed}
use Rattle.state_types.specs.Types.{index_of, TypeBelow, subst_ty}
use Rattle.state_types.specs.Unpacking.{shifted, shifted_type, with_rows, unpacked}
use Rattle.state_types.specs.declared.closed.Packed.{Packed}
use Rattle.state_types.specs.declared.matching.Found.{Found}
use Rattle.state_types.specs.declared.pairs.Pair.{Pair}
use Rattle.state_types.specs.declared.state.StateType.{StateType}
use Rattle.state_types.specs.declared.types.Ty.{Ty}
use Rattle.state_types.specs.declared.types.Ty.TheVariants.{Int, Bool, Array, Named}
use Rattle.state_types.proofs.Edges.{pair_at_is, type_at-all}
use Rattle.state_types.proofs.FormNames.{below-difference, below-zero, below-subst, below-more}
use Rattle.state_types.proofs.MatchPairs.{pair_is, found_is}
use Rattle.state_types.proofs.ShiftFacts.{NamesBelow-shifted, first_is}
use Rattle.state_types.proofs.Thens.{then_ok, within_ok, ok_same}
use Rattle.state_types.proofs.Unpacked.{rows-vars}
use Rattle.state_types.proofs.ValueLists.{values-keys}

-- ---- types

pub type-more : (m n : ℕ) (ty : Ty) → m ≤ n → TypeBelow m ty → TypeBelow n ty
type-more m n (Int e) le named = below-more m n e le named
type-more m n Bool le named = tt
type-more m n (Array p e) le named = below-more m n e le named
type-more m n (Named p) le named = tt

pub replaced-type : (n below : ℕ) (values : List (ℕ × Linear)) (ty given : Ty) → below ≤ n → ValuesBelow n values → subst_ty values below ty ≡ Ok given → TypeBelow n given
unfolding subst_ty
replaced-type n below values (Int e) given le all is =
    let s = then_ok (subst_of values below e) _ given is in
    subst (λ ty. TypeBelow n ty) (ok_same (Int s.value) given s.second) (below-subst n below values e s.value le all s.first)
replaced-type n below values Bool given le all is = subst (λ ty. TypeBelow n ty) (ok_same Bool given is) tt
replaced-type n below values (Array p e) given le all is =
    let s = then_ok (subst_of values below e) _ given is in
    subst (λ ty. TypeBelow n ty) (ok_same (Array p s.value) given s.second) (below-subst n below values e s.value le all s.first)
replaced-type n below values (Named p) given le all is = subst (λ ty. TypeBelow n ty) (ok_same (Named p) given is) tt

-- the index of a present type
IndexBelow : ℕ → Option Linear → Type 0
IndexBelow n found = (form : Linear) → found ≡ Some form → NamesBelow n form

some_same : (e f : Linear) → (let o : Option Linear = Some e in o) ≡ Some f → e ≡ f
some_same e f is = cc

index-below : (n : ℕ) (ty : Ty) → TypeBelow n ty → IndexBelow n (index_of ty)
unfolding IndexBelow
index-below n (Int e) named form is = subst (λ f. NamesBelow n f) (some_same e form is) named
index-below n Bool named form is = absurd (let bad : ⊥ = cc in bad)
index-below n (Array p e) named form is = subst (λ f. NamesBelow n f) (some_same e form is) named
index-below n (Named p) named form is = absurd (let bad : ⊥ = cc in bad)

index_or_zero-below : (n : ℕ) (found : Option Linear) → IndexBelow n found → NamesBelow n (index_or_zero found)
unfolding IndexBelow
index_or_zero-below n (Some form) named = named form refl
index_or_zero-below n None named = below-zero n

-- ---- values

abbrev PairBelow : ℕ → Pair → Type 0
PairBelow n pair = TypeBelow n pair.present

form_by : (test : Truth) (n : ℕ) (e f : Linear) → NamesBelow n e → NamesBelow n f → NamesBelow n (cond test e f)
form_by true n e f h k = h
form_by false n e f h k = k

value-below : (n var : ℕ) (pairs : List Pair) → All (PairBelow n) pairs → NamesBelow n (value_for var pairs)
unfolding value_for
value-below n var [] all = below-zero n
value-below n var (pair ∷ pairs) all =
    form_by (is_alone var (index_of pair.wanted)) n (index_or_zero (index_of pair.present)) (value_for var pairs)
    (index_or_zero-below n (index_of pair.present) (index-below n pair.present (All-head (PairBelow n) pair pairs all)))
    (value-below n var pairs (All-tail (PairBelow n) pair pairs all))

values-below : (n first count : ℕ) (pairs : List Pair) → All (PairBelow n) pairs → ValuesBelow n (values_for first count pairs)
unfolding values_for
values-below n first zero pairs all = All-nil (λ v. NamesBelow n v.1)
values-below n first (suc count) pairs all =
    All-cons (λ v. NamesBelow n v.1) (first, value_for first pairs) (values_for (suc first) count pairs) (value-below n first pairs all) (values-below n (suc first) count pairs all)

-- ---- rows

abbrev RowsBelow : ℕ → List Linear → Type 0
RowsBelow n rows = All (NamesBelow n) rows

both-below : (n : ℕ) (wanted present : Linear) (made all : List Linear) → both_differences wanted present made ≡ Ok all → NamesBelow n wanted → NamesBelow n present → RowsBelow n made
    → RowsBelow n all
both-below n wanted present made all e h k rows =
    let s = then_ok (within_bounds (difference_of wanted present)) _ all e in
    let t = then_ok (within_bounds (difference_of present wanted)) _ all s.second in
    subst (λ rs. RowsBelow n rs) (ok_same _ all t.second)
    (All-push (NamesBelow n) (made ++ s.value ∷ []) t.value
    (All-push (NamesBelow n) made s.value rows (below-difference n wanted present s.value (within_ok (difference_of wanted present) s.value s.first) h k))
    (below-difference n present wanted t.value (within_ok (difference_of present wanted) t.value t.first) k h))

differ_by : (test : Truth) (n : ℕ) (wanted present : Linear) (made all : List Linear)
    → cond test (let r : Check (List Linear) = Ok made in r) (both_differences wanted present made) ≡ Ok all → NamesBelow n wanted → NamesBelow n present → RowsBelow n made → RowsBelow n all
differ_by true n wanted present made all e h k rows = subst (λ rs. RowsBelow n rs) (ok_same made all e) rows
differ_by false n wanted present made all e h k rows = both-below n wanted present made all e h k rows

differences-below : (n : ℕ) (wanted present : Linear) (made all : List Linear) → differences wanted present made ≡ Ok all → NamesBelow n wanted → NamesBelow n present → RowsBelow n made
    → RowsBelow n all
unfolding differences
differences-below n wanted present made all e h k rows = differ_by (same_form wanted present) n wanted present made all e h k rows

index_rows-below : (n below : ℕ) (values : List (ℕ × Linear)) (wanted present : Option Linear) (made all : List Linear) → below ≤ n → ValuesBelow n values → IndexBelow n present
    → index_rows values below wanted present made ≡ Ok all → RowsBelow n made → RowsBelow n all
unfolding index_rows IndexBelow
index_rows-below n below values None present made all le named index e rows = subst (λ rs. RowsBelow n rs) (ok_same made all e) rows
index_rows-below n below values (Some wanted) None made all le named index e rows = subst (λ rs. RowsBelow n rs) (ok_same made all e) rows
index_rows-below n below values (Some wanted) (Some present) made all le named index e rows =
    let s = then_ok (within_bounds (subst_of values below wanted)) (λ given. differences given present made) all e in
    differences-below n s.value present made all s.second (below-subst n below values wanted s.value le named (within_ok (subst_of values below wanted) s.value s.first)) (index present refl) rows

type_rows-below : (n below : ℕ) (values : List (ℕ × Linear)) (pairs : List Pair) (made all : List Linear) → below ≤ n → ValuesBelow n values → All (PairBelow n) pairs
    → type_rows values below pairs made ≡ Ok all → RowsBelow n made → RowsBelow n all
unfolding type_rows
type_rows-below n below values [] made all le named present e rows = subst (λ rs. RowsBelow n rs) (ok_same made all e) rows
type_rows-below n below values (pair ∷ pairs) made all le named present e rows =
    let s = then_ok (index_rows values below (index_of pair.wanted) (index_of pair.present) made) (λ more. type_rows values below pairs more) all e in
    type_rows-below n below values pairs s.value all le named (All-tail (PairBelow n) pair pairs present) s.second
    (index_rows-below n below values (index_of pair.wanted) (index_of pair.present) made s.value le named (index-below n pair.present (All-head (PairBelow n) pair pairs present)) s.first rows)

own_rows-below : (n below : ℕ) (values : List (ℕ × Linear)) (own made all : List Linear) → below ≤ n → ValuesBelow n values → own_rows values below own made ≡ Ok all
    → RowsBelow n made → RowsBelow n all
unfolding own_rows
own_rows-below n below values [] made all le named e rows = subst (λ rs. RowsBelow n rs) (ok_same made all e) rows
own_rows-below n below values (row ∷ own) made all le named e rows =
    let s = then_ok (within_bounds (subst_of values below row)) (λ given. own_rows values below own (made ++ given ∷ [])) all e in
    own_rows-below n below values own (made ++ s.value ∷ []) all le named s.second
    (All-push (NamesBelow n) made s.value rows (below-subst n below values row s.value le named (within_ok (subst_of values below row) s.value s.first)))

demanded-below : (n below : ℕ) (values : List (ℕ × Linear)) (pairs : List Pair) (own all : List Linear) → below ≤ n → ValuesBelow n values → All (PairBelow n) pairs
    → demanded values below pairs own ≡ Ok all → RowsBelow n all
unfolding demanded
demanded-below n below values pairs own all le named present e =
    let s = then_ok (type_rows values below pairs []) (λ made. own_rows values below own made) all e in
    own_rows-below n below values own s.value all le named s.second (type_rows-below n below values pairs [] s.value le named present s.first (All-nil (NamesBelow n)))

-- ---- pairs

pairs-present : (n number : ℕ) (wanted actual : List Ty) (made all : List Pair) → All (TypeBelow n) actual → pairs_of number wanted actual made ≡ Ok all → All (PairBelow n) made
    → All (PairBelow n) all
unfolding pairs_of
pairs-present n number [] actual made all named e before = subst (λ ps. All (PairBelow n) ps) (ok_same made all e) before
pairs-present n number (wanted ∷ later) [] made all named e before = subst (λ ps. All (PairBelow n) ps) (ok_same made all e) before
pairs-present n number (wanted ∷ later) (present ∷ others) made all named e before =
    let s = then_ok (pair_of number wanted present) (λ pair. pairs_of (suc number) later others (made ++ pair ∷ [])) all e in
    let here : PairBelow n s.value = subst (λ p. TypeBelow n p.present) (pair_is number wanted present s.value s.first).1 (All-head (TypeBelow n) present others named) in
    pairs-present n (suc number) later others (made ++ s.value ∷ []) all (All-tail (TypeBelow n) present others named) s.second (All-push (PairBelow n) made s.value before here)

places-present : (n : ℕ) (present wanted : List (ℕ × Ty)) (made all : List Pair) → All (λ e. TypeBelow n e.1) present → pairs_at present wanted made ≡ Ok all → All (PairBelow n) made
    → All (PairBelow n) all
unfolding pairs_at
places-present n present [] made all named e before = subst (λ ps. All (PairBelow n) ps) (ok_same made all e) before
places-present n present (wanted ∷ later) made all named e before =
    let s = then_ok (pair_at present wanted) (λ pair. pairs_at present later (made ++ pair ∷ [])) all e in
    let P : ℕ × Ty → Type 0 = λ x. TypeBelow n x.1 in
    let here : PairBelow n s.value = type_at-all P wanted.0 present s.value.present named (pair_at_is present wanted s.value s.first).there in
    places-present n present later (made ++ s.value ∷ []) all named s.second (All-push (PairBelow n) made s.value before here)

-- ---- the calls

pub match-below : (below vars n : ℕ) (rows : List Linear) (wanted actual : List Ty) (found : Found) → matched below vars rows wanted actual ≡ Ok found → below ≤ n
    → All (TypeBelow n) actual → FoundBelow n found
unfolding matched found_with
match-below below vars n rows wanted actual found e le named =
    let s = then_ok (pairs_of 0 wanted actual []) (λ pairs. found_with (values_for below (vars - below) pairs) below pairs rows) found e in
    let values = values_for below (vars - below) s.value in
    let t = then_ok (demanded values below s.value rows) _ found s.second in
    let present = pairs-present n 0 wanted actual [] s.value named s.first (All-nil (PairBelow n)) in
    let found_values = values-below n below (vars - below) s.value present in
    let here : Found = record { values = values; rows = t.value } in
    let done : FoundBelow n here = record { values = found_values; rows = demanded-below n below values s.value rows t.value le found_values present t.first } in
    subst (λ f. FoundBelow n f) (ok_same here found t.second) done

-- and it lists only variables of the target
pub match-keys : (below vars : ℕ) (rows : List Linear) (wanted actual : List Ty) (found : Found) → matched below vars rows wanted actual ≡ Ok found
    → All (λ v. v.0 < vars) found.values
unfolding matched
match-keys below vars rows wanted actual found e =
    let s = then_ok (pairs_of 0 wanted actual []) (λ pairs. found_with (values_for below (vars - below) pairs) below pairs rows) found e in
    let f = found_is (values_for below (vars - below) s.value) below s.value rows found s.second in
    subst (λ (vs : List (ℕ × Linear)). All (λ v. v.0 < vars) vs) (sym f.0) (values-keys below (vars - below) vars s.value (omega arith))

pub edge-below : (state target : StateType) (values : List (ℕ × Linear)) (rows : List Linear) → meeting state target values ≡ Ok rows → ValuesBelow state.ctx.vars values
    → All (λ e. TypeBelow state.ctx.vars e.1) state.places → RowsBelow state.ctx.vars rows
unfolding meeting
edge-below state target values rows e named places =
    let s = then_ok (pairs_at state.places target.places []) (λ pairs. demanded values state.ctx.vars pairs target.ctx.rows) rows e in
    demanded-below state.ctx.vars state.ctx.vars values s.value target.ctx.rows rows (omega arith) named
    (places-present state.ctx.vars state.places target.places [] s.value places s.first (All-nil (PairBelow state.ctx.vars))) s.second

-- ---- unpacking

shifted-below : (first vars : ℕ) (ty : Ty) → TypeBelow vars ty → TypeBelow (first + vars) (shifted_type first ty)
shifted-below first vars (Int e) named = NamesBelow-shifted first vars e named
shifted-below first vars Bool named = tt
shifted-below first vars (Array p e) named = NamesBelow-shifted first vars e named
shifted-below first vars (Named p) named = tt

pub unpack-below : (ctx more : IndexContext) (packed : Packed) (parts : List Ty) → unpacked ctx packed ≡ Ok (more, parts) → IsClosed packed → UnpackedBelow ctx more packed parts
unfolding unpacked
unpack-below ctx more packed parts e closed =
    let s = then_ok (fresh_from ctx packed.vars) _ (more, parts) e in
    let t = then_ok (with_rows (with_variables ctx packed.vars) (map (shifted s.value) packed.rows)) _ (more, parts) s.second in
    let first : s.value ≡ ctx.vars = first_is (nat_lt 1024 (ctx.vars + packed.vars)) ctx.vars s.value s.first in
    let same = ok_same _ (more, parts) t.second in
    let vars : more.vars ≡ ctx.vars + packed.vars = ap (λ p. p.0.vars) (sym same) ∙ rows-vars (with_variables ctx packed.vars) t.value (map (shifted s.value) packed.rows) t.first in
    let made = All-map (TypeBelow (ctx.vars + packed.vars)) (shifted_type ctx.vars) packed.parts (λ k d h. shifted-below ctx.vars packed.vars (get_or packed.parts k d) (closed.parts k d h)) in
    let named = subst (λ n. All (TypeBelow (ctx.vars + packed.vars)) (map (shifted_type n) packed.parts)) (sym first) made in
    record {
      count = vars;
      named = subst (λ n. All (TypeBelow n) parts) (sym vars) (subst (λ ts. All (TypeBelow (ctx.vars + packed.vars)) ts) (ap (λ p. p.1) same) named);
      keep = λ ty below. type-more ctx.vars more.vars ty (omega arith) below;
    }
