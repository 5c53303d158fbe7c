-- The types that a join states: those of its clause, and those before, in which changed variables have fresh indices.
use Rattle.std.proofs.Common.{◌≡◌, ◌∙◌, ℕ, zero, suc, ◌+◌, ◌≤◌, ◌⊎◌, inl, inr, ℤ, List, [], ◌∷◌, ◌++◌, map, length, Bool as Truth, true, false, cond, Option, Some, None, Result, Ok, Err, refl, sym, ap, subst, append_assoc}
use Rattle.std.specs.Prelude.{◌==◌, ◌||◌, slice_get}
use Rattle.std.specs.List.{All, AllZip}
use Rattle.std.proofs.lemmas.Bool.Decides.{Decides-eqb}
use Rattle.std.proofs.lemmas.List.{append-nil}
use Rattle.std.proofs.lemmas.List.Elements.{All-nil, All-cons, All-head, All-tail, All-push}
use Rattle.std.proofs.lemmas.Option.{same_Some}
use Rattle.xan_lin.specs.Linear.{Linear, NamesBelow, variable_form}
use Rattle.xan_lin.specs.Value.{value_at, value_of}
use Rattle.xan_lin.specs.declared.term.LimitKind.TheVariants as limit
use Rattle.xan_lin.specs.declared.term.TooLarge.{TooLarge}
use Rattle.xan_seq.proofs.RisingKeys.{value-with}
use Rattle.state_types.specs.Naming.{ValuesBelow}
use Rattle.state_types.specs.PlaceTypes.{type_at, with_type}
use Rattle.state_types.specs.Types.{TypeBelow, index_of}
use Rattle.state_types.specs.declared.types.Ty.{Ty}
use Rattle.state_types.proofs.FormNames.{below-subst}
use Rattle.state_types.proofs.RowNames.{replaced-type}
use Rattle.state_types.proofs.Thens.{then_ok, ok_same}
use Rattle.xanadu_tree.specs.declared.linear.Linear.{Linear as Exact}
use Rattle.xanadu_tree.specs.declared.types.CoreTy.{CoreTy}
use Rattle.typed_core.specs.Forms.{form_of, type_of, renamed, renamed_type}
use Rattle.typed_core.specs.Growth.{Continues}
use Rattle.typed_core.specs.Joins.{is_named, with_index, Renewed, is_renewed, with_entry, renewed, stated_types, with_types, leading, present, index_at, values_at}
use Rattle.typed_core.specs.Limits.{within, needed}
use Rattle.typed_core.specs.States.{there}
use Rattle.typed_core.proofs.Continued.{no_more, one_more, more_again}

there_ok : {A : Type 0} (o : Option A) (x : A) → there o ≡ Ok x → o ≡ Some x
there_ok (Some y) x e = ap (λ z. let p : Option _ = Some z in p) (ok_same y x e)
there_ok None x e = absurd (let bad : ⊥ = cc in bad)

needed_ok : {A : Type 0} (r : Result A TooLarge) (x : A) → needed r ≡ Ok x → r ≡ Ok x
needed_ok (Ok y) x e = ap (λ z. let p : Result _ TooLarge = Ok z in p) (ok_same y x e)
needed_ok (Err why) x e = absurd (let bad : ⊥ = cc in bad)

-- ---- the first entry of a variable

found_front : (x : ℕ) (es more : List (ℕ × Ty)) (t : Ty) → type_at x es ≡ Some t → type_at x (es ++ more) ≡ Some t
found_front x [] more t h = absurd (let bad : ⊥ = cc in bad)
found_front x (e ∷ es) more t h = by_test (e.0 == x) h (λ g. found_front x es more t g)
  where
    by_test : (b : Truth) → cond b (let o : Option Ty = Some e.1 in o) (type_at x es) ≡ Some t → (type_at x es ≡ Some t → type_at x (es ++ more) ≡ Some t)
        → cond b (let o : Option Ty = Some e.1 in o) (type_at x (es ++ more)) ≡ Some t
    by_test true h later = h
    by_test false h later = later h

found_behind : (x : ℕ) (es more : List (ℕ × Ty)) → type_at x es ≡ None → type_at x (es ++ more) ≡ type_at x more
found_behind x [] more h = refl
found_behind x (e ∷ es) more h = by_test (e.0 == x) h (λ g. found_behind x es more g)
  where
    by_test : (b : Truth) → cond b (let o : Option Ty = Some e.1 in o) (type_at x es) ≡ None → (type_at x es ≡ None → type_at x (es ++ more) ≡ type_at x more)
        → cond b (let o : Option Ty = Some e.1 in o) (type_at x (es ++ more)) ≡ type_at x more
    by_test true h later = absurd (let bad : ⊥ = cc in bad)
    by_test false h later = later h

-- ---- fresh indices

-- both lists only become more
pub record Longer (made more : Renewed) : Type 0 where
  pub types : Continues made.types more.types
  pub others : Continues made.others more.others

entry_longer : (b : Truth) (first : ℕ) (e : ℕ × Ty) (made : Renewed) → Longer made (with_entry b first e made)
entry_longer false first e made = record { types = one_more made.types e; others = no_more made.others }
entry_longer true first e made = record { types = one_more made.types _; others = one_more made.others e.0 }

pub renewed_longer : (changed : ℕ → Truth) (vars : List (ℕ × CoreTy)) (first : ℕ) (entries : List (ℕ × Ty)) (made : Renewed) → Longer made (renewed changed vars first entries made)
unfolding renewed
renewed_longer changed vars first [] made = record { types = no_more made.types; others = no_more made.others }
renewed_longer changed vars first (e ∷ es) made =
    let next = with_entry (is_renewed changed vars e) first e made in
    let one = entry_longer (is_renewed changed vars e) first e made in
    let two = renewed_longer changed vars first es next in
    record { types = more_again made.types next.types _ one.types two.types; others = more_again made.others next.others _ one.others two.others }

get_front : (xs ys : List ℕ) (j x : ℕ) → slice_get xs j ≡ Some x → slice_get (xs ++ ys) j ≡ Some x
get_front [] ys j x h = absurd (let bad : ⊥ = cc in bad)
get_front (y ∷ xs) ys zero x h = h
get_front (y ∷ xs) ys (suc j) x h = get_front xs ys j x h

get_last : (xs : List ℕ) (x : ℕ) → slice_get (xs ++ x ∷ []) (length xs) ≡ Some x
get_last [] x = refl
get_last (y ∷ xs) x = get_last xs x

-- how a type is kept: as it was, or with a fresh index
pub record IsFresh (first : ℕ) (x : ℕ) (old t : Ty) (others : List ℕ) : Type 0 where
  pub place : ℕ
  pub listed : slice_get others place ≡ Some x
  pub is : t ≡ with_index old (variable_form (first + place))

pub record IsKept (changed : ℕ → Truth) (vars : List (ℕ × CoreTy)) (first : ℕ) (x : ℕ) (entries : List (ℕ × Ty)) (others : List ℕ) (t : Ty) : Type 0 where
  pub old : Ty
  pub there : type_at x entries ≡ Some old
  pub is : ((is_renewed changed vars (x, old) ≡ false) × (t ≡ old)) ⊎ IsFresh first x old t others

module _ (changed : ℕ → Truth) (vars : List (ℕ × CoreTy)) (first x : ℕ) (t : Ty) where
  -- the entry that is met first
  entry_kept : (b : Truth) (e : ℕ × Ty) (es : List (ℕ × Ty)) (made : Renewed) → is_renewed changed vars e ≡ b → (e.0 == x) ≡ true → type_at x made.types ≡ None
      → (let next = with_entry b first e made in type_at x (renewed changed vars first es next).types ≡ Some t
      → IsKept changed vars first x (e ∷ es) (renewed changed vars first es next).others t)
  entry_kept false e es made is here none at =
      let next = with_entry false first e made in
      let long = renewed_longer changed vars first es next in
      let one : type_at x next.types ≡ Some e.1 = found_behind x made.types (e ∷ []) none ∙ ap (λ b. cond b (let o : Option Ty = Some e.1 in o) None) here in
      let same = same_Some e.1 t (sym (ap (type_at x) long.types.is ∙ found_front x next.types long.types.rest e.1 one) ∙ at) in
      let number = (Decides-eqb e.0 x).0 here in
      record {
        old = e.1;
        there = ap (λ b. cond b (let o : Option Ty = Some e.1 in o) (type_at x es)) here;
        is = inl (subst (λ n. is_renewed changed vars (n, e.1) ≡ false) number is, sym same);
      }
  entry_kept true e es made is here none at =
      let next = with_entry true first e made in
      let long = renewed_longer changed vars first es next in
      let u = with_index e.1 (variable_form (first + length made.others)) in
      let one : type_at x next.types ≡ Some u = found_behind x made.types ((e.0, u) ∷ []) none ∙ ap (λ b. cond b (let o : Option Ty = Some u in o) None) here in
      let same = same_Some u t (sym (ap (type_at x) long.types.is ∙ found_front x next.types long.types.rest u one) ∙ at) in
      let number = (Decides-eqb e.0 x).0 here in
      record {
        old = e.1;
        there = ap (λ b. cond b (let o : Option Ty = Some e.1 in o) (type_at x es)) here;
        is = inr (record {
          place = length made.others;
          listed = ap (λ xs. slice_get xs (length made.others)) long.others.is
              ∙ get_front next.others long.others.rest (length made.others) x (get_last made.others e.0 ∙ ap (λ n. let o : Option ℕ = Some n in o) number);
          is = sym same;
        });
      }

  entry_passed : (b : Truth) (e : ℕ × Ty) (made : Renewed) → (e.0 == x) ≡ false → type_at x made.types ≡ None → type_at x (with_entry b first e made).types ≡ None
  entry_passed false e made other none = found_behind x made.types (e ∷ []) none ∙ ap (λ b. cond b (let o : Option Ty = Some e.1 in o) None) other
  entry_passed true e made other none =
      let u = with_index e.1 (variable_form (first + length made.others)) in
      found_behind x made.types ((e.0, u) ∷ []) none ∙ ap (λ b. cond b (let o : Option Ty = Some u in o) None) other

  pub renewed_kept : (entries : List (ℕ × Ty)) (made : Renewed) → type_at x made.types ≡ None → type_at x (renewed changed vars first entries made).types ≡ Some t
      → IsKept changed vars first x entries (renewed changed vars first entries made).others t
  unfolding renewed
  renewed_kept [] made none at = absurd (let bad : ⊥ = cc in bad)
  renewed_kept (e ∷ es) made none at =
      let next = with_entry (is_renewed changed vars e) first e made in
      by_test (e.0 == x) refl (λ other. renewed_kept es next (entry_passed (is_renewed changed vars e) e made other none) at)
    where
      by_test : (b : Truth) → (e.0 == x) ≡ b
          → ((e.0 == x) ≡ false → IsKept changed vars first x es (renewed changed vars first es (with_entry (is_renewed changed vars e) first e made)).others t)
          → IsKept changed vars first x (e ∷ es) (renewed changed vars first es (with_entry (is_renewed changed vars e) first e made)).others t
      by_test true here later = entry_kept (is_renewed changed vars e) e es made refl here none at
      by_test false other later =
          let it = later other in
          record { old = it.old; there = ap (λ b. cond b (let o : Option Ty = Some e.1 in o) (type_at x es)) other ∙ it.there; is = it.is }

-- ---- the clause

-- no variable of the list is this one
abbrev pub IsOther : ℕ → ℕ × Ty → Type 0
IsOther x w = (w.0 == x) ≡ false

last_of : {X : Type 0} (P : X → Type 0) (xs : List X) (y : X) → All P (xs ++ y ∷ []) → All P xs × P y
last_of P [] y all = (All-nil P, All-head P y [] all)
last_of P (x ∷ xs) y all =
    let later = last_of P xs y (All-tail P x (xs ++ y ∷ []) all) in
    (All-cons P x xs (All-head P x (xs ++ y ∷ []) all) later.0, later.1)

pub others_unnamed : (x : ℕ) (naming : List (ℕ × Linear)) (own : ℕ) (vars : List (ℕ × CoreTy)) (made wanted : List (ℕ × Ty)) → stated_types naming own vars made ≡ Ok wanted
    → All (IsOther x) wanted → All (IsOther x) made × (is_named x vars ≡ false)
unfolding stated_types
others_unnamed x naming own [] made wanted e all = (subst (All (IsOther x)) (sym (ok_same made wanted e)) all, refl)
others_unnamed x naming own (s ∷ ss) made wanted e all =
    let t = then_ok (within limit.Places (suc s.0)) _ wanted e in
    let u = then_ok (needed (renamed_type naming own s.1)) _ wanted t.second in
    let later = others_unnamed x naming own ss (made ++ (s.0, u.value) ∷ []) wanted u.second all in
    let parts = last_of (IsOther x) made (s.0, u.value) later.0 in
    (parts.0, ap (λ b. b || is_named x ss) parts.1 ∙ later.1)

abbrev pub EntryBelow : ℕ → ℕ × Ty → Type 0
EntryBelow n e = TypeBelow n e.1

module _ (n own : ℕ) (naming : List (ℕ × Linear)) (le : own ≤ n) (named : ValuesBelow n naming) where
  pub stated_below : (vars : List (ℕ × CoreTy)) (made wanted : List (ℕ × Ty)) → stated_types naming own vars made ≡ Ok wanted → All (EntryBelow n) made → All (EntryBelow n) wanted
  unfolding stated_types renamed_type
  stated_below [] made wanted e all = subst (All (EntryBelow n)) (ok_same made wanted e) all
  stated_below (s ∷ ss) made wanted e all =
      let t = then_ok (within limit.Places (suc s.0)) _ wanted e in
      let u = then_ok (needed (renamed_type naming own s.1)) _ wanted t.second in
      let v = then_ok (type_of s.1) _ u.value (needed_ok (renamed_type naming own s.1) u.value u.first) in
      stated_below ss (made ++ (s.0, u.value) ∷ []) wanted u.second
      (All-push (EntryBelow n) made (s.0, u.value) all (replaced-type n own naming v.value u.value le named v.second))

  pub leading_below : (forms : List Exact) → All (NamesBelow n) (leading (map (renamed naming own) forms))
  unfolding leading renamed
  leading_below [] = All-nil (NamesBelow n)
  leading_below (form ∷ forms) =
      by_row (renamed naming own form) (leading_below forms) (λ f e. let s = then_ok (form_of form) _ f e in below-subst n own naming s.value f le named s.second)
    where
      by_row : (r : Result Linear TooLarge) → All (NamesBelow n) (leading (map (renamed naming own) forms)) → ((f : Linear) → r ≡ Ok f → NamesBelow n f)
          → All (NamesBelow n) (leading (r ∷ map (renamed naming own) forms))
      by_row (Ok f) later h = All-cons (NamesBelow n) f (leading (map (renamed naming own) forms)) (h f refl) later
      by_row (Err why) later h = All-nil (NamesBelow n)

-- ---- what a way in finds

pub record Presents (types ws : List (ℕ × Ty)) (made actual : List Ty) : Type 0 where
  pub ts : List Ty
  pub is : made ++ ts ≡ actual
  pub there : AllZip (λ (w : ℕ × Ty) t. type_at w.0 types ≡ Some t) ws ts

pub presents_are : (types ws : List (ℕ × Ty)) (made actual : List Ty) → present types ws made ≡ Ok actual → Presents types ws made actual
unfolding present
presents_are types [] made actual e = record { ts = []; is = append-nil made ∙ ok_same made actual e; there = tt }
presents_are types (w ∷ ws) made actual e =
    let s = then_ok (there (type_at w.0 types)) _ actual e in
    let later = presents_are types ws (made ++ s.value ∷ []) actual s.second in
    record { ts = s.value ∷ later.ts; is = sym (append_assoc made (s.value ∷ []) later.ts) ∙ later.is; there = (there_ok (type_at w.0 types) s.value s.first, later.there) }

-- the index of a variable's type
pub record HasIndex (types : List (ℕ × Ty)) (x : ℕ) (form : Linear) : Type 0 where
  pub type : Ty
  pub there : type_at x types ≡ Some type
  pub is : index_of type ≡ Some form

pub record Indices (types : List (ℕ × Ty)) (xs : List ℕ) : Type 0 where
  pub forms : List Linear
  pub are : AllZip (HasIndex types) xs forms

pub indices_are : (types : List (ℕ × Ty)) (next : ℕ) (xs : List ℕ) (made values : List (ℕ × Linear)) → values_at types next xs made ≡ Ok values → Indices types xs
unfolding values_at index_at
indices_are types next [] made values e = record { forms = []; are = tt }
indices_are types next (x ∷ xs) made values e =
    let s = then_ok (index_at types x) _ values e in
    let t = then_ok (there (type_at x types)) _ s.value s.first in
    let later = indices_are types (suc next) xs (made ++ (next, s.value) ∷ []) values s.second in
    record {
      forms = s.value ∷ later.forms;
      are = (record { type = t.value; there = there_ok (type_at x types) t.value t.first; is = there_ok (index_of t.value) s.value t.second }, later.are);
    }

pub record IndexAt (types : List (ℕ × Ty)) (assignment : List ℤ) (x j : ℕ) (forms : List Linear) : Type 0 where
  pub form : Linear
  pub has : HasIndex types x form
  pub worth : value_at (map (value_of assignment) forms) j ≡ value_of assignment form

pub index_of_other : (types : List (ℕ × Ty)) (assignment : List ℤ) (x j : ℕ) (xs : List ℕ) (forms : List Linear) → AllZip (HasIndex types) xs forms → slice_get xs j ≡ Some x
    → IndexAt types assignment x j forms
index_of_other types assignment x j [] [] all h = absurd (let bad : ⊥ = cc in bad)
index_of_other types assignment x j [] (f ∷ fs) all h = absurd all
index_of_other types assignment x j (y ∷ ys) [] all h = absurd all
index_of_other types assignment x zero (y ∷ ys) (f ∷ fs) all h = record { form = f; has = subst (λ n. HasIndex types n f) (same_Some y x h) all.0; worth = refl }
index_of_other types assignment x (suc j) (y ∷ ys) (f ∷ fs) all h =
    let it = index_of_other types assignment x j ys fs all.1 h in
    record { form = it.form; has = it.has; worth = it.worth }

-- ---- types that are stated over others

pub stated_over : (P : ℕ → Ty → Type 0) (x : ℕ) (t : Ty) (wanted types : List (ℕ × Ty)) → All (λ w. P w.0 w.1) wanted → (All (IsOther x) wanted → type_at x types ≡ Some t → P x t)
    → type_at x (with_types wanted types) ≡ Some t → P x t
unfolding with_types
stated_over P x t [] types all rest at = rest (All-nil (IsOther x)) at
stated_over P x t (w ∷ ws) types all rest at =
    stated_over P x t ws (with_type w.0 w.1 types) (All-tail (λ w. P w.0 w.1) w ws all)
    (λ others found. by_test (w.0 == x) refl others (sym (value-with x w.0 w.1 types) ∙ found)) at
  where
    by_test : (b : Truth) → (w.0 == x) ≡ b → All (IsOther x) ws → cond b (let o : Option Ty = Some w.1 in o) (type_at x types) ≡ Some t → P x t
    by_test true here others found =
        subst (λ u. P x u) (same_Some w.1 t found) (subst (λ n. P n w.1) ((Decides-eqb w.0 x).0 here) (All-head (λ w. P w.0 w.1) w ws all))
    by_test false other others found = rest (All-cons (IsOther x) w ws other others) found
