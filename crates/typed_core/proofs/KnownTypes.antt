-- The types that are known of the visible variables, and what keeps them.
use Rattle.std.proofs.Common.{◌≡◌, ℕ, suc, ◌+◌, List, [], ◌∷◌, ◌++◌, ◌==◌, nat_lt, length, Bool as Truth, true, false, cond, Option, Some, None, Ok, Err, refl, sym, ap, subst, ◌∙◌, inl, inr, eq-eqb}
use Rattle.std.specs.Prelude.{◌⊎◌, slice_get, ◌&&◌, not}
use Rattle.std.specs.List.{AllByRecursion}
use Rattle.std.proofs.lemmas.Bool.{eqb-true}
use Rattle.std.proofs.lemmas.Option.{same_Some}
use Rattle.xan_lin.specs.Linear.{Linear, variable_form}
use Rattle.xan_lin.proofs.Booleans.{both}
use Rattle.state_types.specs.PlaceTypes.{type_at, with_type}
use Rattle.state_types.specs.Types.{same_kind}
use Rattle.state_types.specs.declared.types.Ty.{Ty}
use Rattle.state_types.specs.declared.types.Ty.TheVariants as ty
use Rattle.xanadu_tree.specs.declared.types.CoreTy.{CoreTy}
use Rattle.xanadu_tree.specs.declared.types.Kind.{Kind}
use Rattle.xanadu_tree.specs.declared.types.Kind.TheVariants as kind
use Rattle.xanadu_tree.specs.KindRules.{IsAmong}
use Rattle.typed_core.specs.Joins.{with_index, Renewed, has_index, is_named, is_renewed, with_entry, renewed, with_types, type_or, still_visible}
use Rattle.xan_lin.specs.declared.term.LimitKind.TheVariants as limit
use Rattle.typed_core.specs.Limits.{Walk, Misfit, within}
use Rattle.typed_core.specs.States.{State, like, given}
use Rattle.typed_core.proofs.LimitedAnswers.{Fits, then_answers, within_fits}
use Rattle.typed_core.proofs.TypeKinds.{ty_kind, some_kind, like_kinds}

-- ---- lists of types

-- the variable has a type
abbrev pub IsListed : List (ℕ × Ty) → ℕ → Type 0
IsListed [] x = ⊥
IsListed (e ∷ es) x = (x ≡ e.0) ⊎ IsListed es x

pub record There (types : List (ℕ × Ty)) (x : ℕ) : Type 0 where
  pub type : Ty
  pub at : type_at x types ≡ Some type

found_by : (b : Truth) (e : ℕ × Ty) (es : List (ℕ × Ty)) (x : ℕ) → (e.0 == x) ≡ b → IsListed (e ∷ es) x → (IsListed es x → There es x) → There (e ∷ es) x
found_by true e es x same h later = record { type = e.1; at = ap (λ b. cond b (let r : Option Ty = Some e.1 in r) (type_at x es)) same }
found_by false e es x same (inl h) later = absurd (let t : (e.0 == x) ≡ true = eq-eqb e.0 x (sym h) in let bad : ⊥ = cc in bad)
found_by false e es x same (inr h) later =
    let it = later h in
    record { type = it.type; at = ap (λ b. cond b (let r : Option Ty = Some e.1 in r) (type_at x es)) same ∙ it.at }

pub found : (types : List (ℕ × Ty)) (x : ℕ) → IsListed types x → There types x
found [] x h = absurd h
found (e ∷ es) x h = found_by (e.0 == x) e es x refl h (found es x)

entry_by : (P : ℕ × Ty → Type 0) (b : Truth) (e : ℕ × Ty) (es : List (ℕ × Ty)) (x : ℕ) (t : Ty) → (e.0 == x) ≡ b → P e → (type_at x es ≡ Some t → P (x, t))
    → cond b (let r : Option Ty = Some e.1 in r) (type_at x es) ≡ Some t → P (x, t)
entry_by P true e es x t same p later h =
    subst (λ u. P (x, u)) (same_Some e.1 t h) (subst (λ y. P (y, e.1)) (eqb-true e.0 x same) p)
entry_by P false e es x t same p later h = later h

-- what holds of each entry holds of the one that is found
pub entry_at : (P : ℕ × Ty → Type 0) (types : List (ℕ × Ty)) (x : ℕ) (t : Ty) → AllByRecursion P types → type_at x types ≡ Some t → P (x, t)
entry_at P [] x t all h = absurd (cc)
entry_at P (e ∷ es) x t all h = entry_by P (e.0 == x) e es x t refl all.0 (entry_at P es x t all.1) h

-- ---- writes

with_by : (R : List (ℕ × Ty) → Type 0) (b c : Truth) (x : ℕ) (t : Ty) (e : ℕ × Ty) (es : List (ℕ × Ty)) → (e.0 == x) ≡ c → R ((x, t) ∷ e ∷ es)
    → (e.0 ≡ x → R ((x, t) ∷ es)) → R (e ∷ with_type x t es) → R (cond b (e ∷ with_type x t es) (cond c ((x, t) ∷ es) ((x, t) ∷ e ∷ es)))
with_by R true c x t e es same before over behind = behind
with_by R false true x t e es same before over behind = over (eqb-true e.0 x same)
with_by R false false x t e es same before over behind = before

with_cases : (R : List (ℕ × Ty) → Type 0) (x : ℕ) (t : Ty) (e : ℕ × Ty) (es : List (ℕ × Ty)) → R ((x, t) ∷ e ∷ es)
    → (e.0 ≡ x → R ((x, t) ∷ es)) → R (e ∷ with_type x t es) → R (with_type x t (e ∷ es))
with_cases R x t e es before over behind = with_by R (nat_lt e.0 x) (e.0 == x) x t e es refl before over behind

over_listed : (x y : ℕ) (t : Ty) (e : ℕ × Ty) (es : List (ℕ × Ty)) → IsListed (e ∷ es) y → e.0 ≡ x → IsListed ((x, t) ∷ es) y
over_listed x y t e es (inl h) same = inl (h ∙ same)
over_listed x y t e es (inr h) same = inr h

behind_listed : (y : ℕ) (e : ℕ × Ty) (es fs : List (ℕ × Ty)) → (IsListed es y → IsListed fs y) → IsListed (e ∷ es) y → IsListed (e ∷ fs) y
behind_listed y e es fs f (inl h) = inl h
behind_listed y e es fs f (inr h) = inr (f h)

pub listed_with : (x y : ℕ) (t : Ty) (types : List (ℕ × Ty)) → IsListed types y → IsListed (with_type x t types) y
listed_with x y t [] h = absurd h
listed_with x y t (e ∷ es) h =
    with_cases (λ l. IsListed l y) x t e es (inr h) (over_listed x y t e es h) (behind_listed y e es (with_type x t es) (listed_with x y t es) h)

pub listed_new : (x : ℕ) (t : Ty) (types : List (ℕ × Ty)) → IsListed (with_type x t types) x
listed_new x t [] = inl refl
listed_new x t (e ∷ es) = with_cases (λ l. IsListed l x) x t e es (inl refl) (λ same. inl refl) (inr (listed_new x t es))

pub all_with_type : (P : ℕ × Ty → Type 0) (x : ℕ) (t : Ty) (types : List (ℕ × Ty)) → P (x, t) → AllByRecursion P types → AllByRecursion P (with_type x t types)
all_with_type P x t [] p all = (p, tt)
all_with_type P x t (e ∷ es) p all =
    with_cases (AllByRecursion P) x t e es (p, (all.0, all.1)) (λ same. (p, all.1)) (all.0, all_with_type P x t es p all.1)

-- ---- what is known

-- the variable is visible, and has a type of its kind
abbrev pub IsEntry : List Kind → (visible : List ℕ) → ℕ × Ty → Type 0
IsEntry kinds visible e = IsAmong visible e.0 × (slice_get kinds e.0 ≡ Some (ty_kind e.1))

-- each visible variable has a type, and each type is that of a visible variable
pub record Knows (kinds : List Kind) (visible : List ℕ) (types : List (ℕ × Ty)) : Type 0 where
  pub there : (x : ℕ) → IsAmong visible x → IsListed types x
  pub agree : AllByRecursion (IsEntry kinds visible) types

abbrev pub AreWithin : (inner outer : List ℕ) → Type 0
AreWithin inner outer = (x : ℕ) → IsAmong inner x → IsAmong outer x

pub record Present (types : List (ℕ × Ty)) (x : ℕ) (k : Kind) : Type 0 where
  pub type : Ty
  pub at : type_at x types ≡ Some type
  pub kind : k ≡ ty_kind type

pub present_of : (kinds : List Kind) (visible : List ℕ) (types : List (ℕ × Ty)) (x : ℕ) (k : Kind) → Knows kinds visible types → IsAmong visible x
    → slice_get kinds x ≡ Some k → Present types x k
present_of kinds visible types x k knows among e =
    let it = found types x (knows.there x among) in
    let entry = entry_at (IsEntry kinds visible) types x it.type knows.agree it.at in
    record { type = it.type; at = it.at; kind = same_Some k (ty_kind it.type) (sym e ∙ entry.1) }

pub all_weaker : {A : Type 0} (P Q : A → Type 0) → ((x : A) → P x → Q x) → (xs : List A) → AllByRecursion P xs → AllByRecursion Q xs
all_weaker P Q f [] h = tt
all_weaker P Q f (x ∷ xs) h = (f x h.0, all_weaker P Q f xs h.1)

pub all_behind : {A : Type 0} (P : A → Type 0) (xs : List A) (x : A) → AllByRecursion P xs → P x → AllByRecursion P (xs ++ x ∷ [])
all_behind P [] x h p = (p, tt)
all_behind P (y ∷ ys) x h p = (h.0, all_behind P ys x h.1 p)

pub knows_same : (kinds : List Kind) (one two : List ℕ) (types : List (ℕ × Ty)) → AreWithin one two → AreWithin two one → Knows kinds one types → Knows kinds two types
knows_same kinds one two types up down knows = record {
  there = λ x among. knows.there x (down x among);
  agree = all_weaker (IsEntry kinds one) (IsEntry kinds two) (λ e h. (up e.0 h.0, h.1)) types knows.agree;
}

listed_either : (visible : List ℕ) (types : List (ℕ × Ty)) (x y : ℕ) (t : Ty) → ((z : ℕ) → IsAmong visible z → IsListed types z) → (y ≡ x) ⊎ IsAmong visible y
    → IsListed (with_type x t types) y
listed_either visible types x y t there (inl h) = subst (λ z. IsListed (with_type x t types) z) (sym h) (listed_new x t types)
listed_either visible types x y t there (inr h) = listed_with x y t types (there y h)

pub knows_with : (kinds : List Kind) (visible : List ℕ) (types : List (ℕ × Ty)) (x : ℕ) (t : Ty) → Knows kinds visible types → slice_get kinds x ≡ Some (ty_kind t)
    → Knows kinds (x ∷ visible) (with_type x t types)
knows_with kinds visible types x t knows e = record {
  there = λ y among. listed_either visible types x y t knows.there among;
  agree = all_with_type (IsEntry kinds (x ∷ visible)) x t types (inl refl, e)
      (all_weaker (IsEntry kinds visible) (IsEntry kinds (x ∷ visible)) (λ f h. (inr h.0, h.1)) types knows.agree);
}

-- ---- a variable is given a type

like_by : (b : Truth) (t : Ty) → b ≡ true → Fits (λ u. t ≡ u) (cond b (let r : Walk Ty = Ok t in r) (Err Misfit))
like_by true t e = record { is = refl }
like_by false t e = absurd (cc)

like_fits : (kinds : List Kind) (visible : List ℕ) (types : List (ℕ × Ty)) (x : ℕ) (t : Ty) (o : Option Ty) → Knows kinds visible types
    → slice_get kinds x ≡ Some (ty_kind t) → type_at x types ≡ o → Fits (λ u. t ≡ u) (like o t)
like_fits kinds visible types x t None knows e at = record { is = refl }
like_fits kinds visible types x t (Some old) knows e at =
    let entry = entry_at (IsEntry kinds visible) types x old knows.agree at in
    like_by (same_kind old t) t (like_kinds old t (same_Some (ty_kind old) (ty_kind t) (sym entry.1 ∙ e)))

pub given_fits : (kinds : List Kind) (visible : List ℕ) (x : ℕ) (t : Ty) (st : State) → Knows kinds visible st.types → slice_get kinds x ≡ Some (ty_kind t)
    → Fits (λ more. Knows kinds (x ∷ visible) more.types) (given x t st)
unfolding given
given_fits kinds visible x t st knows e =
    then_answers (within limit.Places (suc x)) _ (within_fits limit.Places (suc x))
    (λ few v. then_answers (like (type_at x st.types) t) _ (like_fits kinds visible st.types x t (type_at x st.types) knows e refl)
    (λ u same. record { is = subst (λ v. Knows kinds (x ∷ visible) (with_type x v st.types)) same (knows_with kinds visible st.types x t knows e) }))

-- ---- the end of a block

listed_still : (types after : List (ℕ × Ty)) (x : ℕ) → IsListed types x → IsListed (still_visible types after) x
unfolding still_visible
listed_still [] after x h = h
listed_still (e ∷ es) after x (inl h) = inl h
listed_still (e ∷ es) after x (inr h) = inr (listed_still es after x h)

kind_or : (kinds : List Kind) (inner : List ℕ) (x : ℕ) (t : Ty) (after : List (ℕ × Ty)) (o : Option Ty) → type_at x after ≡ o
    → AllByRecursion (IsEntry kinds inner) after → slice_get kinds x ≡ Some (ty_kind t) → slice_get kinds x ≡ Some (ty_kind (type_or t o))
kind_or kinds inner x t after None at all e = e
kind_or kinds inner x t after (Some u) at all e = (entry_at (IsEntry kinds inner) after x u all at).1

all_still : (kinds : List Kind) (visible inner : List ℕ) (types after : List (ℕ × Ty)) → AllByRecursion (IsEntry kinds visible) types
    → AllByRecursion (IsEntry kinds inner) after → AllByRecursion (IsEntry kinds visible) (still_visible types after)
unfolding still_visible
all_still kinds visible inner [] after all others = tt
all_still kinds visible inner (e ∷ es) after all others =
    ((all.0.0, kind_or kinds inner e.0 e.1 after (type_at e.0 after) refl others all.0.1), all_still kinds visible inner es after all.1 others)

pub knows_still : (kinds : List Kind) (visible inner : List ℕ) (types after : List (ℕ × Ty)) → Knows kinds visible types → Knows kinds inner after
    → Knows kinds visible (still_visible types after)
knows_still kinds visible inner types after knows other = record {
  there = λ x among. listed_still types after x (knows.there x among);
  agree = all_still kinds visible inner types after knows.agree other.agree;
}

-- ---- clauses

pub knows_types : (kinds : List Kind) (visible : List ℕ) (stated types : List (ℕ × Ty)) → AllByRecursion (IsEntry kinds visible) stated → Knows kinds visible types
    → Knows kinds visible (with_types stated types)
unfolding with_types
knows_types kinds visible [] types all knows = knows
knows_types kinds visible (s ∷ ss) types all knows = knows_types kinds visible ss (with_type s.0 s.1 types) all.1 (record {
  there = λ y among. listed_with s.0 y s.1 types (knows.there y among);
  agree = all_with_type (IsEntry kinds visible) s.0 s.1 types all.0 knows.agree;
})

-- ---- fresh indices

abbrev pub HasIndex : Kind → Type 0
HasIndex kind.Int = Unit {0}
HasIndex (kind.Array element) = Unit {0}
HasIndex _ = ⊥

-- a visible variable whose type has an index
pub record IsIndexed (kinds : List Kind) (visible : List ℕ) (x : ℕ) : Type 0 where
  pub kind : Kind
  pub among : IsAmong visible x
  pub is : slice_get kinds x ≡ Some kind
  pub index : HasIndex kind

has_an_index : (t : Ty) → has_index t ≡ true → HasIndex (ty_kind t)
has_an_index (ty.Int e) h = tt
has_an_index ty.Bool h = absurd (cc)
has_an_index (ty.Array number e) h = tt
has_an_index (ty.Named number) h = absurd (cc)

index_kind : (t : Ty) (form : Linear) → ty_kind t ≡ ty_kind (with_index t form)
index_kind (ty.Int e) form = refl
index_kind ty.Bool form = refl
index_kind (ty.Array number e) form = refl
index_kind (ty.Named number) form = refl

pub record Renews (kinds : List Kind) (visible : List ℕ) (IsWanted : ℕ → Type 0) (made : Renewed) : Type 0 where
  pub there : (x : ℕ) → IsWanted x → IsListed made.types x
  pub agree : AllByRecursion (IsEntry kinds visible) made.types
  pub indexed : AllByRecursion (IsIndexed kinds visible) made.others

abbrev ListedBy : ℕ × Ty → (ℕ → Type 0) → ℕ → Type 0
ListedBy e IsWanted x = IsWanted x ⊎ (x ≡ e.0)

listed_front : (types : List (ℕ × Ty)) (e : ℕ × Ty) (x : ℕ) → IsListed types x → IsListed (types ++ e ∷ []) x
listed_front [] e x h = absurd h
listed_front (f ∷ fs) e x (inl h) = inl h
listed_front (f ∷ fs) e x (inr h) = inr (listed_front fs e x h)

listed_last : (types : List (ℕ × Ty)) (e : ℕ × Ty) (x : ℕ) → x ≡ e.0 → IsListed (types ++ e ∷ []) x
listed_last [] e x h = inl h
listed_last (f ∷ fs) e x h = inr (listed_last fs e x h)

listed_by : (IsWanted : ℕ → Type 0) (types : List (ℕ × Ty)) (e f : ℕ × Ty) (x : ℕ) → f.0 ≡ e.0 → ((y : ℕ) → IsWanted y → IsListed types y) → ListedBy e IsWanted x
    → IsListed (types ++ f ∷ []) x
listed_by IsWanted types e f x same there (inl h) = listed_front types f x (there x h)
listed_by IsWanted types e f x same there (inr h) = listed_last types f x (h ∙ sym same)

renews_entry : (kinds : List Kind) (visible : List ℕ) (IsWanted : ℕ → Type 0) (b : Truth) (first : ℕ) (e : ℕ × Ty) (made : Renewed) → (b ≡ true → has_index e.1 ≡ true)
    → IsEntry kinds visible e → Renews kinds visible IsWanted made → Renews kinds visible (ListedBy e IsWanted) (with_entry b first e made)
renews_entry kinds visible IsWanted false first e made index entry r = record {
  there = λ x h. listed_by IsWanted made.types e e x refl r.there h;
  agree = all_behind (IsEntry kinds visible) made.types e r.agree entry;
  indexed = r.indexed;
}
renews_entry kinds visible IsWanted true first e made index entry r =
    let form = variable_form (first + length made.others) in
    record {
      there = λ x h. listed_by IsWanted made.types e (e.0, with_index e.1 form) x refl r.there h;
      agree = all_behind (IsEntry kinds visible) made.types (e.0, with_index e.1 form) r.agree
          (entry.0, entry.1 ∙ some_kind (index_kind e.1 form));
      indexed = all_behind (IsIndexed kinds visible) made.others e.0 r.indexed
          (record { kind = ty_kind e.1; among = entry.0; is = entry.1; index = has_an_index e.1 (index refl) });
    }

wanted_later : (IsWanted : ℕ → Type 0) (e : ℕ × Ty) (es : List (ℕ × Ty)) (x : ℕ) → IsWanted x ⊎ IsListed (e ∷ es) x → ListedBy e IsWanted x ⊎ IsListed es x
wanted_later IsWanted e es x (inl h) = inl (inl h)
wanted_later IsWanted e es x (inr (inl h)) = inl (inr h)
wanted_later IsWanted e es x (inr (inr h)) = inr h

wanted_all : (IsWanted : ℕ → Type 0) (x : ℕ) → IsWanted x ⊎ IsListed [] x → IsWanted x
wanted_all IsWanted x (inl h) = h
wanted_all IsWanted x (inr h) = absurd h

is_index : (changed : ℕ → Truth) (vars : List (ℕ × CoreTy)) (e : ℕ × Ty) → is_renewed changed vars e ≡ true → has_index e.1 ≡ true
is_index changed vars e h = (both (has_index e.1) (changed e.0) (both (has_index e.1 && changed e.0) (not (is_named e.0 vars)) h).0).0

renews_all : (kinds : List Kind) (visible : List ℕ) (changed : ℕ → Truth) (vars : List (ℕ × CoreTy)) (first : ℕ) (IsWanted : ℕ → Type 0) (entries : List (ℕ × Ty)) (made : Renewed)
    → AllByRecursion (IsEntry kinds visible) entries → Renews kinds visible IsWanted made
    → Renews kinds visible (λ x. IsWanted x ⊎ IsListed entries x) (renewed changed vars first entries made)
unfolding renewed
renews_all kinds visible changed vars first IsWanted [] made all r = record { there = λ x h. r.there x (wanted_all IsWanted x h); agree = r.agree; indexed = r.indexed }
renews_all kinds visible changed vars first IsWanted (e ∷ es) made all r =
    let step = renews_entry kinds visible IsWanted (is_renewed changed vars e) first e made (is_index changed vars e) all.0 r in
    let rest = renews_all kinds visible changed vars first (ListedBy e IsWanted) es (with_entry (is_renewed changed vars e) first e made) all.1 step in
    record { there = λ x h. rest.there x (wanted_later IsWanted e es x h); agree = rest.agree; indexed = rest.indexed }

-- what the changed variables make of the types
pub renews : (kinds : List Kind) (visible : List ℕ) (changed : ℕ → Truth) (vars : List (ℕ × CoreTy)) (first : ℕ) (types : List (ℕ × Ty)) → Knows kinds visible types
    → Renews kinds visible (IsAmong visible) (renewed changed vars first types (record { types = []; others = [] }))
renews kinds visible changed vars first types knows =
    let all = renews_all kinds visible changed vars first (λ x. ⊥) types (record { types = []; others = [] }) knows.agree
    (record { there = λ x h. absurd h; agree = tt; indexed = tt }) in
    record { there = λ x among. all.there x (inr (knows.there x among)); agree = all.agree; indexed = all.indexed }
