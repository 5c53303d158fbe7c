-- What unpacking gives.
use Rattle.std.proofs.Common.{◌≡◌, ℕ, zero, suc, ◌+◌, ◌<◌, ◌*◌, ℤ, pos, ◌+ℤ◌, ◌*ℤ◌, ◌≤ℤ◌, List, [], ◌∷◌, ◌++◌, map, length, length-append, get_or, Bool as Truth, true, false, cond, nat_le, nat_lt, Result, Ok, Err, refl, sym, ◌∙◌, ap, subst, arith}
use Rattle.std.specs.List.{All, AllZip}
use Rattle.std.proofs.lemmas.List.Elements.{All-head, All-tail, All-map, All-push}
use Rattle.index_sorts.specs.Context.{IndexContext, fresh_from, with_variables}
use Rattle.index_sorts.specs.Known.{with_row, knows}
use Rattle.index_sorts.specs.Entails.{AllHold}
use Rattle.index_sorts.specs.declared.error.ContextError.{ContextError}
use Rattle.index_sorts.specs.declared.error.ContextError.TheVariants.{Rows}
use Rattle.xan_lin.specs.Linear.{Linear, NamesBelow}
use Rattle.xan_lin.specs.Value.{value_at, value_of, value_of_terms, Holds}
use Rattle.xan_lin.specs.declared.term.Term.{Term}
use Rattle.xan_lin.proofs.ResultValues.{value-cons, value-none}
use Rattle.state_types.specs.Sound.{Carries, IsUnpacked}
use Rattle.state_types.specs.Types.{TypeBelow}
use Rattle.state_types.specs.Unpacking.{shifted_term, shifted, shifted_type, with_rows, unpacked}
use Rattle.state_types.specs.Words.{IsBlock}
use Rattle.state_types.specs.declared.closed.Packed.{Packed}
use Rattle.state_types.specs.declared.types.Ty.{Ty}
use Rattle.state_types.specs.declared.types.Ty.TheVariants.{Int, Bool, Array, Named}
use Rattle.state_types.proofs.ShiftFacts.{first_is}
use Rattle.state_types.proofs.Thens.{then_ok, ok_same}

-- ---- values under a longer assignment

next_place : (n v : ℕ) → suc n + v ≡ suc (n + v)
next_place n v = omega arith

value_at-behind : (xs ys : List ℤ) (v : ℕ) → value_at (xs ++ ys) (length xs + v) ≡ value_at ys v
value_at-behind [] ys v = ap (λ n. value_at ys n) (let e : 0 + v ≡ v = omega arith in e)
value_at-behind (x ∷ xs) ys v = ap (λ n. value_at (x ∷ (xs ++ ys)) n) (next_place (length xs) v) ∙ value_at-behind xs ys v

value_at-front : (xs ys : List ℤ) (v : ℕ) → v < length xs → value_at (xs ++ ys) v ≡ value_at xs v
value_at-front [] ys v h = absurd (omega arith)
value_at-front (x ∷ xs) ys zero h = refl
value_at-front (x ∷ xs) ys (suc v) h = value_at-front xs ys v (omega arith)

terms-behind : (xs ys : List ℤ) (ts : List Term) → value_of_terms (xs ++ ys) (map (shifted_term (length xs)) ts) ≡ value_of_terms ys ts
terms-behind xs ys [] = value-none (xs ++ ys) ∙ sym (value-none ys)
terms-behind xs ys (t ∷ ts) =
    value-cons (xs ++ ys) (shifted_term (length xs) t) (map (shifted_term (length xs)) ts)
    ∙ ap (λ n. (t.coef *ℤ n) +ℤ value_of_terms (xs ++ ys) (map (shifted_term (length xs)) ts)) (value_at-behind xs ys t.var)
    ∙ ap (λ n. (t.coef *ℤ value_at ys t.var) +ℤ n) (terms-behind xs ys ts)
    ∙ sym (value-cons ys t ts)

terms-front : (xs ys : List ℤ) (ts : List Term) → All (λ t. t.var < length xs) ts → value_of_terms (xs ++ ys) ts ≡ value_of_terms xs ts
terms-front xs ys [] named = value-none (xs ++ ys) ∙ sym (value-none xs)
terms-front xs ys (t ∷ ts) named =
    let P : Term → Type 0 = λ u. u.var < length xs in
    value-cons (xs ++ ys) t ts
    ∙ ap (λ n. (t.coef *ℤ n) +ℤ value_of_terms (xs ++ ys) ts) (value_at-front xs ys t.var (All-head P t ts named))
    ∙ ap (λ n. (t.coef *ℤ value_at xs t.var) +ℤ n) (terms-front xs ys ts (All-tail P t ts named))
    ∙ sym (value-cons xs t ts)

pub value-behind : (xs ys : List ℤ) (form : Linear) → value_of (xs ++ ys) (shifted (length xs) form) ≡ value_of ys form
value-behind xs ys form = ap (λ n. n +ℤ form.constant) (terms-behind xs ys form.terms)

pub value-front : (xs ys : List ℤ) (form : Linear) → NamesBelow (length xs) form → value_of (xs ++ ys) form ≡ value_of xs form
value-front xs ys form named = ap (λ n. n +ℤ form.constant) (terms-front xs ys form.terms named)

-- ---- types under it

same_int : (xs ys : List ℤ) (e f : Linear) → value_of xs e ≡ value_of ys f → Carries xs ys (Int e) (Int f)
same_int xs ys e f same = record { carries = λ headers word h. h ∙ same }

same_array : (xs ys : List ℤ) (p : ℕ) (e f : Linear) → value_of xs e ≡ value_of ys f → Carries xs ys (Array p e) (Array p f)
same_array xs ys p e f same = record { carries = λ headers word h. subst (λ v. IsBlock headers word (2 * p) v) same h }

pub part_carries : (xs ys : List ℤ) (ty : Ty) → Carries ys (xs ++ ys) ty (shifted_type (length xs) ty)
part_carries xs ys (Int e) = same_int ys (xs ++ ys) e (shifted (length xs) e) (sym (value-behind xs ys e))
part_carries xs ys Bool = record { carries = λ headers word h. h }
part_carries xs ys (Array p e) = same_array ys (xs ++ ys) p e (shifted (length xs) e) (sym (value-behind xs ys e))
part_carries xs ys (Named p) = record { carries = λ headers word h. h }

pub present_keeps : (xs ys : List ℤ) (ty : Ty) → TypeBelow (length xs) ty → Carries xs (xs ++ ys) ty ty
present_keeps xs ys (Int e) named = same_int xs (xs ++ ys) e e (sym (value-front xs ys e named))
present_keeps xs ys Bool named = record { carries = λ headers word h. h }
present_keeps xs ys (Array p e) named = same_array xs (xs ++ ys) p e e (sym (value-front xs ys e named))
present_keeps xs ys (Named p) named = record { carries = λ headers word h. h }

parts_carry : (xs ys : List ℤ) (parts : List Ty) → AllZip (Carries ys (xs ++ ys)) parts (map (shifted_type (length xs)) parts)
parts_carry xs ys [] = tt
parts_carry xs ys (ty ∷ parts) = (part_carries xs ys ty, parts_carry xs ys parts)

-- ---- rows

pub Grown : IndexContext → Linear → IndexContext → Type 0
Grown ctx row more = (more.vars ≡ ctx.vars) × ((values : List ℤ) → AllHold values ctx.rows → Holds values row → AllHold values more.rows)

grown_by : (known full : Truth) (ctx : IndexContext) (row : Linear) (more : IndexContext)
    → cond known (let r : Result IndexContext ContextError = Ok ctx in r) (cond full (Err Rows) (Ok (record ctx { rows = ctx.rows ++ row ∷ [] }))) ≡ Ok more → Grown ctx row more
unfolding Grown
grown_by true full ctx row more e =
    let same : ctx ≡ more = ok_same ctx more e in
    (ap (λ c. c.vars) (sym same), λ values holds here. subst (λ c. AllHold values c.rows) same holds)
grown_by false true ctx row more e = absurd (let bad : ⊥ = cc in bad)
grown_by false false ctx row more e =
    let same = ok_same _ more e in
    (ap (λ c. c.vars) (sym same), λ values holds here. subst (λ c. AllHold values c.rows) same (All-push (Holds values) ctx.rows row holds here))

pub row_grows : (ctx : IndexContext) (row : Linear) (more : IndexContext) → with_row ctx row ≡ Ok more → Grown ctx row more
unfolding with_row
row_grows ctx row more e = grown_by (knows ctx row) (nat_le 512 (length ctx.rows)) ctx row more e

pub rows_grow : (values : List ℤ) (ctx more : IndexContext) (rows : List Linear) → with_rows ctx rows ≡ Ok more → AllHold values ctx.rows → AllHold values rows
    → (more.vars ≡ ctx.vars) × AllHold values more.rows
unfolding with_rows Grown
rows_grow values ctx more [] e before all =
    let same : ctx ≡ more = ok_same ctx more e in
    (ap (λ c. c.vars) (sym same), subst (λ c. AllHold values c.rows) same before)
rows_grow values ctx more (row ∷ rows) e before all =
    let s = then_ok (with_row ctx row) (λ m. with_rows m rows) more e in
    let g = row_grows ctx row s.value s.first in
    let later = rows_grow values s.value more rows s.second (g.1 values before (All-head (Holds values) row rows all)) (All-tail (Holds values) row rows all) in
    (later.0 ∙ g.0, later.1)

pub rows-vars : (ctx more : IndexContext) (rows : List Linear) → with_rows ctx rows ≡ Ok more → more.vars ≡ ctx.vars
unfolding with_rows Grown
rows-vars ctx more [] e = ap (λ c. c.vars) (sym (ok_same ctx more e))
rows-vars ctx more (row ∷ rows) e =
    let s = then_ok (with_row ctx row) (λ m. with_rows m rows) more e in
    rows-vars s.value more rows s.second ∙ (row_grows ctx row s.value s.first).0

pub holds-front : (xs ys : List ℤ) (rows : List Linear) → All (NamesBelow (length xs)) rows → AllHold xs rows → AllHold (xs ++ ys) rows
holds-front xs ys rows named holds = λ k d h. subst (λ n. pos 0 ≤ℤ n) (sym (value-front xs ys (get_or rows k d) (named k d h))) (holds k d h)

pub holds-behind : (xs ys : List ℤ) (rows : List Linear) → AllHold ys rows → AllHold (xs ++ ys) (map (shifted (length xs)) rows)
holds-behind xs ys rows holds =
    All-map (Holds (xs ++ ys)) (shifted (length xs)) rows (λ k d h. subst (λ n. pos 0 ≤ℤ n) (sym (value-behind xs ys (get_or rows k d))) (holds k d h))

-- ---- unpacking

pub unpacks : (ctx more : IndexContext) (packed : Packed) (parts : List Ty) (assignment own : List ℤ) → unpacked ctx packed ≡ Ok (more, parts)
    → All (NamesBelow ctx.vars) ctx.rows → length assignment ≡ ctx.vars → AllHold assignment ctx.rows → length own ≡ packed.vars → AllHold own packed.rows
    → IsUnpacked assignment (assignment ++ own) own ctx more packed.parts parts
unfolding unpacked
unpacks ctx more packed parts assignment own e named count holds own_count own_holds =
    let longer = assignment ++ own in
    let s = then_ok (fresh_from ctx packed.vars) _ (more, parts) e in
    let t = then_ok (with_rows (with_variables ctx packed.vars) (map (shifted s.value) packed.rows)) _ (more, parts) s.second in
    let first : length assignment ≡ s.value = count ∙ sym (first_is (nat_lt 1024 (ctx.vars + packed.vars)) ctx.vars s.value s.first) in
    let same = ok_same _ (more, parts) t.second in
    let is_more : t.value ≡ more = ap (λ p. p.0) same in
    let is_parts : map (shifted_type s.value) packed.parts ≡ parts = ap (λ p. p.1) same in
    let before = holds-front assignment own ctx.rows (subst (λ n. All (NamesBelow n) ctx.rows) (sym count) named) holds in
    let rows = subst (λ n. AllHold longer (map (shifted n) packed.rows)) first (holds-behind assignment own packed.rows own_holds) in
    let g = rows_grow longer (with_variables ctx packed.vars) t.value (map (shifted s.value) packed.rows) t.first before rows in
    record {
      one_each = length-append assignment own ∙ omega arith ∙ sym g.0 ∙ ap (λ c. c.vars) is_more;
      hold = subst (λ c. AllHold longer c.rows) is_more g.1;
      fit = subst (λ ts. AllZip (Carries own longer) packed.parts ts) is_parts
          (subst (λ n. AllZip (Carries own longer) packed.parts (map (shifted_type n) packed.parts)) first (parts_carry assignment own packed.parts));
      keep = λ ty below. present_keeps assignment own ty (subst (λ n. TypeBelow n ty) (sym count) below);
    }
