-- What a join states, entry by entry and row by row, beside what a way into it gives.
use Rattle.std.proofs.Common.{◌≡◌, ◌∙◌, ℕ, zero, suc, ◌+◌, cond, List, [], ◌∷◌, ◌++◌, map, length, slice_get, Bool as Truth, true, false, ◌⊎◌, inl, inr, Option, Some, None, Result, Ok, Err, refl, sym, ap, subst, arith}
use Rattle.std.specs.Prelude.{◌==◌, ◌||◌, nat_le}
use Rattle.std.specs.List.{AllZip, AllByRecursion, list_any}
use Rattle.index_sorts.specs.Context.{IndexContext}
use Rattle.index_sorts.specs.Known.{holds_always, knows, with_row}
use Rattle.index_sorts.specs.declared.error.ContextError.{ContextError}
use Rattle.index_sorts.specs.declared.error.ContextError.TheVariants as context_error
use Rattle.xan_lin.specs.Linear.{Linear, IsForm}
use Rattle.xan_lin.specs.Same.{same_form}
use Rattle.xan_lin.specs.declared.term.TooLarge.{TooLarge}
use Rattle.xan_lin.proofs.Booleans.{equal}
use Rattle.xan_lin.proofs.EqualForms.{Decides-same_form}
use Rattle.state_types.specs.Types.{index_of, same_kind}
use Rattle.state_types.specs.PlaceTypes.{type_at}
use Rattle.state_types.specs.declared.types.Ty.{Ty}
use Rattle.state_types.specs.declared.types.Ty.TheVariants as ty
use Rattle.state_types.proofs.Thens.{then_ok, ok_same}
use Rattle.operation_rules.specs.Applied as rules
use Rattle.operation_rules.specs.Applied.{all_assuming}
use Rattle.xanadu_tree.specs.declared.types.CoreTy.{CoreTy}
use Rattle.typed_core.specs.Joins.{is_named, leading, first_past}
use Rattle.carrier_laws.proofs.EdgesReach.{IsTypeForm}
use Rattle.carrier_laws.proofs.MatchedRows.{TypeMet}
use Rattle.carrier_laws.proofs.WayRows.{Among}

-- ---- rows that a context has after some were taken to hold

row_by : (b c : Truth) (ctx mid : IndexContext) (row r : Linear)
    → cond b (let x : Result IndexContext ContextError = Ok ctx in x) (cond c (Err context_error.Rows) (Ok (record ctx { rows = ctx.rows ++ row ∷ [] }))) ≡ Ok mid
    → Among mid.rows r → Among ctx.rows r ⊎ (row ≡ r)
row_by true c ctx mid row r e a = inl (subst (λ (m : IndexContext). Among m.rows r) (sym (ok_same ctx mid e)) a)
row_by false true ctx mid row r e a = absurd (let bad : ⊥ = cc in bad)
row_by false false ctx mid row r e a =
    last ctx.rows (subst (λ (m : IndexContext). Among m.rows r) (sym (ok_same (record ctx { rows = ctx.rows ++ row ∷ [] }) mid e)) a)
  where
    last : (xs : List Linear) → Among (xs ++ row ∷ []) r → Among xs r ⊎ (row ≡ r)
    last [] (inl h) = inr h
    last [] (inr h) = absurd h
    last (x ∷ xs) (inl h) = inl (inl h)
    last (x ∷ xs) (inr h) = later (last xs h)
      where
        later : Among xs r ⊎ (row ≡ r) → Among (x ∷ xs) r ⊎ (row ≡ r)
        later (inl h) = inl (inr h)
        later (inr h) = inr h

with_row_from : (ctx mid : IndexContext) (row r : Linear) → with_row ctx row ≡ Ok mid → Among mid.rows r → Among ctx.rows r ⊎ (row ≡ r)
unfolding with_row
with_row_from ctx mid row r e a = row_by (knows ctx row) (nat_le 512 (length ctx.rows)) ctx mid row r e a

one_from : (row : Result Linear TooLarge) (ctx mid : IndexContext) (r : Linear) → rules.assuming row ctx ≡ Ok mid → Among mid.rows r → Among ctx.rows r ⊎ (row ≡ Ok r)
one_from (Ok row) ctx mid r e a = same (with_row_from ctx mid row r e a)
  where
    same : Among ctx.rows r ⊎ (row ≡ r) → Among ctx.rows r ⊎ ((let x : Result Linear TooLarge = Ok row in x) ≡ Ok r)
    same (inl h) = inl h
    same (inr h) = inr (ap (λ x. let y : Result Linear TooLarge = Ok x in y) h)
one_from (Err why) ctx mid r e a = inl (subst (λ (m : IndexContext). Among m.rows r) (sym (ok_same ctx mid e)) a)

pub assumed_from : (rows : List (Result Linear TooLarge)) (ctx more : IndexContext) (r : Linear) → all_assuming rows ctx ≡ Ok more → Among more.rows r
    → Among ctx.rows r ⊎ Among rows (Ok r)
unfolding all_assuming
assumed_from [] ctx more r e a = inl (subst (λ (m : IndexContext). Among m.rows r) (sym (ok_same ctx more e)) a)
assumed_from (row ∷ rows) ctx more r e a =
    let s = then_ok (rules.assuming row ctx) _ more e in
    either s.value s.first (assumed_from rows s.value more r s.second a)
  where
    first : Among ctx.rows r ⊎ (row ≡ Ok r) → Among ctx.rows r ⊎ Among (row ∷ rows) (Ok r)
    first (inl h) = inl h
    first (inr h) = inr (inl h)

    either : (mid : IndexContext) → rules.assuming row ctx ≡ Ok mid → Among mid.rows r ⊎ Among rows (Ok r) → Among ctx.rows r ⊎ Among (row ∷ rows) (Ok r)
    either mid made (inl h) = first (one_from row ctx mid r made h)
    either mid made (inr h) = inr (inr h)

-- where none is past the bounds
pub leading_all : (rows : List (Result Linear TooLarge)) (r : Linear) → first_past rows ≡ None → Among rows (Ok r) → Among (leading rows) r
unfolding leading first_past
leading_all [] r none a = absurd a
leading_all (Ok row ∷ rows) r none (inl h) = inl (ok_same row r h)
leading_all (Ok row ∷ rows) r none (inr h) = inr (leading_all rows r none h)
leading_all (Err why ∷ rows) r none a = absurd (let bad : ⊥ = cc in bad)

-- a listed row is known
pub known_among : (ctx : IndexContext) (row : Linear) → Among ctx.rows row → knows ctx row ≡ true
unfolding knows
known_among ctx row a = behind (holds_always row) (any ctx.rows a)
  where
    behind : (b : Truth) {c : Truth} → c ≡ true → (b || c) ≡ true
    behind true e = refl
    behind false e = e

    front : (b c : Truth) → b ≡ true → (b || c) ≡ true
    front true c e = refl
    front false c e = absurd (let bad : ⊥ = cc in bad)

    any : (rows : List Linear) → Among rows row → list_any (same_form row) rows ≡ true
    any [] h = absurd h
    any (r ∷ rows) (inl h) = front (same_form row r) (list_any (same_form row) rows) ((Decides-same_form row r).1 (sym h))
    any (r ∷ rows) (inr h) = behind (same_form row r) (any rows h)

-- ---- of lists side by side

pub each_among : {A : Type 0} (P : A → Type 0) (xs : List A) (x : A) → AllByRecursion P xs → Among xs x → P x
each_among P [] x all a = absurd a
each_among P (y ∷ ys) x all (inl h) = subst P h all.0
each_among P (y ∷ ys) x all (inr h) = each_among P ys x all.1 h

pub zip_get : {A B : Type 0} (P : A → B → Type 0) (xs : List A) (ys : List B) (k : ℕ) (x : A) → AllZip P xs ys → slice_get xs k ≡ Some x
    → (y : B) × (slice_get ys k ≡ Some y) × P x y
zip_get P [] ys k x all e = absurd (let bad : ⊥ = cc in bad)
zip_get P (z ∷ xs) [] k x all e = absurd all
zip_get P (z ∷ xs) (w ∷ ys) zero x all e = (w, refl, subst (λ v. P v w) (same_some z x e) all.0)
  where
    same_some : {A : Type 0} (a b : A) → (let o : Option A = Some a in o) ≡ Some b → a ≡ b
    same_some a b e = cc
zip_get P (z ∷ xs) (w ∷ ys) (suc k) x all e = zip_get P xs ys k x all.1 e

pub get_behind : {A : Type 0} (xs ys : List A) (k : ℕ) → slice_get (xs ++ ys) (length xs + k) ≡ slice_get ys k
get_behind [] ys k = ap (λ m. slice_get ys m) (let same : 0 + k ≡ k = omega arith in same)
get_behind (x ∷ xs) ys k =
    ap (λ m. slice_get (x ∷ (xs ++ ys)) m) (let same : suc (length xs) + k ≡ suc (length xs + k) = omega arith in same) ∙ get_behind xs ys k

-- ---- the types that a clause states

-- the wanted type of a variable of the clause, and the present one that it was matched with
pub record StatedType (values : List (ℕ × Linear)) (below : ℕ) (sought : List Linear) (types : List (ℕ × Ty)) (x : ℕ) (t : Ty) : Type 0 where
  pub present : Ty
  pub there : type_at x types ≡ Some present
  pub met : TypeMet values below sought t present

pub stated_type : (values : List (ℕ × Linear)) (below : ℕ) (sought : List Linear) (types : List (ℕ × Ty)) (x : ℕ) (t : Ty) (wanted : List (ℕ × Ty)) (actual : List Ty)
    → AllZip (λ (w : ℕ × Ty) u. type_at w.0 types ≡ Some u) wanted actual
    → AllZip (λ w a. (same_kind w a ≡ true) × TypeMet values below sought w a) (map (λ w. w.1) wanted) actual → Among wanted (x, t)
    → StatedType values below sought types x t
stated_type values below sought types x t [] actual there met a = absurd a
stated_type values below sought types x t (w ∷ ws) [] there met a = absurd there
stated_type values below sought types x t (w ∷ ws) (u ∷ us) there met (inl h) =
    subst (λ (e : ℕ × Ty). StatedType values below sought types e.0 e.1) h (record { present = u; there = there.0; met = met.0.1 })
stated_type values below sought types x t (w ∷ ws) (u ∷ us) there met (inr h) = stated_type values below sought types x t ws us there.1 met.1 h

pub named_among : (vars : List (ℕ × CoreTy)) (wanted : List (ℕ × Ty)) (x : ℕ) (t : Ty) → AllZip (λ (s : ℕ × CoreTy) (w : ℕ × Ty). s.0 ≡ w.0) vars wanted → Among wanted (x, t)
    → is_named x vars ≡ true
named_among [] [] x t keys a = absurd a
named_among [] (w ∷ ws) x t keys a = absurd keys
named_among (s ∷ ss) [] x t keys a = absurd a
named_among (s ∷ ss) (w ∷ ws) x t keys (inl h) = front (s.0 == x) (is_named x ss) (equal s.0 x (keys.0 ∙ ap (λ e. e.0) h))
  where
    front : (b c : Truth) → b ≡ true → (b || c) ≡ true
    front true c e = refl
    front false c e = absurd (let bad : ⊥ = cc in bad)
named_among (s ∷ ss) (w ∷ ws) x t keys (inr h) = behind (s.0 == x) (named_among ss ws x t keys.1 h)
  where
    behind : (b : Truth) {c : Truth} → c ≡ true → (b || c) ≡ true
    behind true e = refl
    behind false e = e

pub index_form : (t : Ty) (form : Linear) → IsTypeForm t → index_of t ≡ Some form → IsForm form
index_form (ty.Int e) form is h = subst IsForm (same_some e form h) is
  where
    same_some : (a b : Linear) → (let o : Option Linear = Some a in o) ≡ Some b → a ≡ b
    same_some a b e = cc
index_form ty.Bool form is h = absurd (let bad : ⊥ = cc in bad)
index_form (ty.Array p e) form is h = subst IsForm (same_some e form h) is
  where
    same_some : (a b : Linear) → (let o : Option Linear = Some a in o) ≡ Some b → a ≡ b
    same_some a b e = cc
index_form (ty.Named p) form is h = absurd (let bad : ⊥ = cc in bad)
